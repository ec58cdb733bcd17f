use Prim.Native.Nat.{◌<◌}
use native.Mathlib.Omega.{arith}
use lib.ListN.{get_or}
use lib.Seq.{get_or-take}
use Rattle.along.proofs.Walking.{near, low, start-next, empty-load, size}
use Rattle.along.proofs.loads.at_start.Goals as goal

pub offset_bounds-t-x : goal.offset_bounds-t-x
offset_bounds-t-x c =
    let i = c.loop-x.x-index in
    let inside : i < c.args.stops = omega (arith, size c.requires) in
    omega (arith, get_or-take c.args.stops c.args.route.now i 0 inside, near c.requires i inside)

pub bounds-t-x : goal.bounds-t-x
bounds-t-x c =
    let i = c.loop-x.x-index in
    let inside : i < c.args.stops = omega (arith, size c.requires) in
    omega (arith, get_or-take c.args.stops c.args.route.now i 0 inside, near c.requires i inside)

pub loop-x-preserved : goal.loop-x-preserved
loop-x-preserved c =
    let v = c.loop-x in
    let inside : v.x-index < c.args.stops = omega (arith, size c.requires) in
    rw (get_or-take c.args.stops c.args.route.now v.x-index 0 inside)
    (omega (arith, low c.requires (get_or c.args.route.now v.x-index 0)), omega (arith, v.invariant.1, start-next c.requires v.x-index inside))

pub returns : goal.returns
returns c =
    let v = c.loop-x in
    (omega (arith, v.invariant.1, empty-load c.requires v.x-index (omega (arith, size c.requires))), omega (arith, size c.requires, c.requires.route.most))
