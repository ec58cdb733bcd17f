use mathlib.Core.Path.{refl, sym, ◌∙◌}
use Rattle.laws.proofs.Below.{below_none, flag-goes}
use Rattle.tables.proofs.Signed.{left-goes}
use Rattle.tables.proofs.line_left.Goals as goal

pub loop-k-init : goal.loop-k-init
loop-k-init c = below_none _

pub loop-k-preserved : goal.loop-k-preserved
loop-k-preserved c =
    let p = c.requires in
    flag-goes _ _ c.loop-k.invariant refl ∙ sym (left-goes (p.2.low _) (p.2.low _) p.3 p.4 c.loop-k.left-bits)
