use native.Mathlib.Omega.{arith}
use mathlib.Core.Path.{◌∙◌}
use mathlib.Core.Bool.{true, and_comm}
use Prim.Native.Nat.{◌-◌}
use Rattle.laws.proofs.Below.{below_none, flag-goes}
use Rattle.bits.specs.Places.{without, within}
use Rattle.bits.proofs.Members.{within_none}
use Rattle.board.proofs.TestLaws.{set-inner, set-outer, outer-first, outer, over-goes, within-goes}
use Rattle.board.proofs.form.sets_ok.Goals as goal

pub loop-y-init : goal.loop-y-init
loop-y-init c =
    flag-goes 0 _ (below_none _) (set-outer _ _ _ 0 (outer-first _)) ∙ rw (within_none _) (and_comm true _)

pub loop-y-preserved : goal.loop-y-preserved
loop-y-preserved c =
    within-goes _ _ _ _ _ _ c.loop-y.invariant (set-inner _ _ _ _ (omega arith) (omega arith))

pub loop-y-2-preserved : goal.loop-y-2-preserved
loop-y-2-preserved c =
    over-goes _ _ (within c.loop-y.places (without c.args.on (c.args.n - 1))) _ _ c.loop-y-2.invariant (set-outer _ _ _ _ (outer _ _ (omega arith)))
