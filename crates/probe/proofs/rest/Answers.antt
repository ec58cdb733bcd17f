-- The rooms are too long for their lengths to be counted off.
use Rattle.std.proofs.Common.{ℕ, sym, ◌∙◌}
use lib.ListN.{length-replicate}
use Rattle.probe.proofs.rest.Goals as goal

pub slice_bounds-fill-end-2 : goal.slice_bounds-fill-end-2
slice_bounds-fill-end-2 g c = sym (length-replicate {0} {A = ℕ} 524288 0)

pub slice_bounds-line-end : goal.slice_bounds-line-end
slice_bounds-line-end g c = sym (c.fill.auto.buf ∙ length-replicate {0} {A = ℕ} 61440 0)

pub slice_bounds-line-end-2 : goal.slice_bounds-line-end-2
slice_bounds-line-end-2 g c = sym (c.fill-2.auto.buf ∙ length-replicate {0} {A = ℕ} 524288 0)
