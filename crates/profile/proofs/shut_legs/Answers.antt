use mathlib.Core.Path.{◌≡◌}
use mathlib.Core.Bool.{cond, ◌||◌}
use Prim.Native.Nat.{◌+◌}
use lib.ListN.{get_or}
use Rattle.bits.specs.Places.{has, with}
use native.Mathlib.Omega.{arith}
use Rattle.profile.proofs.ShutLaws.{seen_none, seen_more}
use Rattle.profile.proofs.shut_legs.Goals as goal

pub loop-i-init : goal.loop-i-init
loop-i-init c = seen_none _ _ _

pub loop-i-preserved : goal.loop-i-preserved
loop-i-preserved c =
    let a = c.args in
    let v = c.loop-i in
    let p = get_or a.route.now v.i 0 in
    let late : c.if-met.late ≡ cond (v.met || has a.soiled p) (with v.late p) v.late = grind arith in
    let early : c.if-holds.early ≡ cond (has a.clean (get_or a.route.now (v.i + 1) 0)) (with v.passed p) v.early = grind arith in
    rw (early, late, c.put-passed.ensures, c.holds-met.ensures) (seen_more _ _ _ (c.requires.2 v.i (omega arith)) v.invariant)
