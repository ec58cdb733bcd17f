use mathlib.Core.Path.{refl, ◌∙◌}
use native.Mathlib.Omega.{arith}
use Rattle.along.proofs.Walking.{near, low}
use Rattle.verdict.proofs.Carry.{laden-none, laden-all, laden-wrong, laden-over, laden-next, down-low}
use Rattle.verdict.proofs.carried.Goals as goal

pub loop-i-init : goal.loop-i-init
loop-i-init c = laden-none c.requires.0 c.args.van c.at_start-aboard.ensures.0 c.at_start-aboard.ensures.1

pub overflow_add-other : goal.overflow_add-other
overflow_add-other c = omega (arith, near c.requires.0 c.loop-i.i c.loop-i-test.true, c.requires.0.jobs.long)

pub offset_bounds-t-x : goal.offset_bounds-t-x
offset_bounds-t-x c = omega (arith, near c.requires.0 c.loop-i.i c.loop-i-test.true, c.requires.0.jobs.long)

pub bounds-t-x : goal.bounds-t-x
bounds-t-x c = omega (arith, near c.requires.0 c.loop-i.i c.loop-i-test.true, c.requires.0.jobs.long)

pub holds-begun-requires : goal.holds-begun-requires
holds-begun-requires c = c.requires.0.jobs.near _ (near c.requires.0 c.loop-i.i c.loop-i-test.true)

pub overflow_add-x : goal.overflow_add-x
overflow_add-x c = omega (arith, near c.requires.0 c.loop-i.i c.loop-i-test.true, c.requires.0.jobs.long)

pub offset_bounds-t-x-in-loop-i : goal.offset_bounds-t-x-in-loop-i
offset_bounds-t-x-in-loop-i c = omega (arith, near c.requires.0 c.loop-i.i c.loop-i-test.true, c.requires.0.jobs.long)

pub bounds-t-x-in-loop-i : goal.bounds-t-x-in-loop-i
bounds-t-x-in-loop-i c = omega (arith, near c.requires.0 c.loop-i.i c.loop-i-test.true, c.requires.0.jobs.long)

pub returns-then-begun-t : goal.returns-then-begun-t
returns-then-begun-t c = laden-wrong c.requires.0 c.args.van c.loop-i.invariant c.loop-i-test.true c.holds-begun.ensures c.if-begun-t.true

pub holds-requires : goal.holds-requires
holds-requires c = c.requires.0.jobs.near _ (near c.requires.0 c.loop-i.i c.loop-i-test.true)

pub comes-up-requires : goal.comes-up-requires
comes-up-requires c = (c.requires.0.jobs.long, near c.requires.0 c.loop-i.i c.loop-i-test.true, low c.requires.0)

pub goes-down-requires : goal.goes-down-requires
goes-down-requires c = (c.requires.0.jobs.long, near c.requires.0 c.loop-i.i c.loop-i-test.true, low c.requires.0)

pub overflow_sub-aboard : goal.overflow_sub-aboard
overflow_sub-aboard c =
    down-low c.requires.0 c.args.van c.loop-i.invariant c.loop-i-test.true c.holds-begun.ensures (c.holds.ensures ∙ c.requires.1 _)
    c.if-begun-t.false c.comes-up.ensures c.goes-down.ensures

pub returns-then-i-stops : goal.returns-then-i-stops
returns-then-i-stops c =
    laden-over c.requires.0 c.args.van c.loop-i.invariant c.loop-i-test.true c.holds-begun.ensures (c.holds.ensures ∙ c.requires.1 _)
    c.if-begun-t.false c.comes-up.ensures c.goes-down.ensures refl c.if-i-stops.true

pub put-seen-requires : goal.put-seen-requires
put-seen-requires c = near c.requires.0 c.loop-i.i c.loop-i-test.true

pub loop-i-preserved : goal.loop-i-preserved
loop-i-preserved c =
    rw c.put-seen.ensures
    (laden-next c.requires.0 c.args.van c.loop-i.invariant c.loop-i-test.true c.holds-begun.ensures (c.holds.ensures ∙ c.requires.1 _)
    c.if-begun-t.false c.comes-up.ensures c.goes-down.ensures refl c.if-i-stops.false)

pub returns : goal.returns
returns c = laden-all c.requires.0 c.args.van c.loop-i.invariant (omega arith)
