use native.Mathlib.Omega.{arith}
use Rattle.fleet.proofs.WardLaws.{opens-none, opens-more, opens_not}
use Rattle.fleet.proofs.wards.open_wards.Lts.{then-sets-y-ne0, else-sets-y-ne0}
use Rattle.fleet.proofs.wards.open_wards.Goals as goal

pub loop-y-init : goal.loop-y-init
loop-y-init c = opens-none c.args.sets.now

pub loop-y-preserved : goal.loop-y-preserved
loop-y-preserved c =
    let sets = c.args.sets.now in
    let y = c.loop-y.y in
    let w = c.loop-y.w in
    elim c.if-sets-y-ne0.branch [
      | then-sets-y-ne0 t ↦ rw (t.w-is, t.put-w.ensures) (opens-more sets y w (omega arith) t.if-sets-y-ne0.true c.loop-y.invariant)
      | else-sets-y-ne0 t ↦ rw t.w-is (opens_not sets y w t.if-sets-y-ne0.false c.loop-y.invariant)
    ]
