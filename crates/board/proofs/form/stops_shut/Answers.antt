use mathlib.Core.Bool.{true}
use mathlib.Core.Path.{refl}
use Rattle.laws.proofs.Below.{below_none}
use Rattle.board.specs.Tests.{stop_shut}
use Rattle.board.proofs.TestLaws.{over-goes}
use Rattle.board.proofs.form.stops_shut.Goals as goal

pub loop-i-init : goal.loop-i-init
loop-i-init c = below_none _

pub loop-i-preserved : goal.loop-i-preserved
unfolding stop_shut
loop-i-preserved c = over-goes _ _ true _ _ c.loop-i.invariant refl
