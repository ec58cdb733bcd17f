use mathlib.Core.Bool.{not}
use mathlib.Core.Path.{ap, ◌∙◌}
use Prim.Native.Nat.{ℕ}
use lib.Dec.{eqb}
use Rattle.bits.proofs.Number.{ones_none}
use Rattle.verdict.proofs.is_open.Goals as goal

pub returns : goal.returns
returns c = ap (λ (k : ℕ). not (eqb k 0)) c.count.ensures.0 ∙ ap not (ones_none _) ∙ ap (λ (w : ℕ). not (eqb w 0)) c.places.ensures
