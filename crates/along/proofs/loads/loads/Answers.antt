use native.Mathlib.Omega.{arith}
use mathlib.Core.Path.{◌≡◌, refl}
use Prim.Native.Nat.{◌-◌}
use Rattle.along.proofs.Walking.{near, low, riding-none, riding-next, down-few}
use Rattle.along.proofs.loads.loads.Goals as goal

pub loop-i-init : goal.loop-i-init
loop-i-init c =
    let e = c.at_start-aboard.ensures in
    riding-none c.requires.0 e.0 e.1 c.requires.2

pub overflow_add-other : goal.overflow_add-other
overflow_add-other c = omega (arith, near c.requires.0 c.loop-i.i (omega arith))

pub offset_bounds-t-x : goal.offset_bounds-t-x
offset_bounds-t-x c = omega (arith, near c.requires.0 c.loop-i.i (omega arith))

pub bounds-t-x : goal.bounds-t-x
bounds-t-x c = omega (arith, near c.requires.0 c.loop-i.i (omega arith))

pub bounds-spots-other : goal.bounds-spots-other
bounds-spots-other c = c.requires.0.jobs.near _ (near c.requires.0 c.loop-i.i (omega arith))

pub comes-up-requires : goal.comes-up-requires
comes-up-requires c = (c.requires.0.jobs.long, near c.requires.0 c.loop-i.i (omega arith), low c.requires.0)

pub goes-down-requires : goal.goes-down-requires
goes-down-requires c = (c.requires.0.jobs.long, near c.requires.0 c.loop-i.i (omega arith), low c.requires.0)

pub overflow_sub-aboard : goal.overflow_sub-aboard
overflow_sub-aboard c = down-few c.requires.0 c.requires.1 c.loop-i.invariant (omega arith) c.comes-up.ensures c.goes-down.ensures

pub loop-i-preserved : goal.loop-i-preserved
loop-i-preserved c =
    riding-next c.requires.0 c.requires.1 c.loop-i.invariant (omega arith) c.comes-up.ensures c.goes-down.ensures refl (omega arith)

pub returns : goal.returns
returns c =
    let l = c.loop-i in
    let e : l.i ≡ c.args.stops - 1 = omega arith in (
      rw e at l.invariant.legs,
      record { highest = rw e at l.invariant.peak; heaviest = c.requires.0.jobs.heaviest },
    )
