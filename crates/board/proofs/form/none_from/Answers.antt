use native.Mathlib.Omega.{arith}
use mathlib.Core.Bool.{true}
use Rattle.laws.proofs.Below.{below-make}
use Rattle.board.proofs.TestLaws.{zero-used, zero-past, over-goes}
use Rattle.board.proofs.form.none_from.Goals as goal

pub loop-i-init : goal.loop-i-init
loop-i-init c = below-make _ _ (λ i h. zero-used _ i _ h)

pub loop-i-preserved : goal.loop-i-preserved
loop-i-preserved c = over-goes _ _ true _ _ c.loop-i.invariant (zero-past _ _ _ (omega arith))
