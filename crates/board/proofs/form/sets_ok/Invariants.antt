use mathlib.Core.Path.{◌≡◌}
use mathlib.Core.Bool.{◌&&◌}
use Prim.Native.Nat.{◌-◌}
use lib.ListN.{get_or}
use lib.Dec.{eqb}
use Rattle.laws.specs.Basic.{all_below}
use Rattle.bits.specs.Places.{without, within}
use Rattle.board.specs.Tests.{set_test}
use Rattle.board.proofs.form.sets_ok.Given as goal

abbrev pub invariant-loop-y : goal.invariant-loop-y
invariant-loop-y l =
    let legs = without l.on (l.n - 1) in
    all_below l.y (set_test l.n l.sets legs) ≡ (eqb (get_or l.sets 0 0) 0 && within l.places legs)

abbrev pub invariant-loop-y-2 : goal.invariant-loop-y-2
invariant-loop-y-2 l =
    let legs = without l.on (l.n - 1) in
    all_below l.y (set_test l.n l.sets legs) ≡ (within l.places legs && eqb l.over 0)
