use native.Mathlib.Omega.{arith}
use Rattle.fleet.proofs.ServedLaws.{least-low, missing-open, missing-shut, missing-all}
use Rattle.fleet.proofs.wards.missed.Goals as goal

pub offset_bounds-sets-x : goal.offset_bounds-sets-x
offset_bounds-sets-x c = let s = c.in-Some.ensures.steps in omega (arith, s.1, least-low s.0 c.loop-x.invariant)

pub bounds-sets-x : goal.bounds-sets-x
bounds-sets-x c = let s = c.in-Some.ensures.steps in omega (arith, s.1, least-low s.0 c.loop-x.invariant)

pub loop-x-preserved-then-sets-x-ne0 : goal.loop-x-preserved-then-sets-x-ne0
loop-x-preserved-then-sets-x-ne0 c =
    let s = c.in-Some.ensures.steps in
    rw (s.2, c.take-kept.ensures, s.1) (missing-open s.0 c.loop-x.invariant (rw s.1 at c.if-sets-x-ne0.true))

pub loop-x-preserved : goal.loop-x-preserved
loop-x-preserved c =
    let s = c.in-Some.ensures.steps in
    rw (s.2, s.1) (missing-shut s.0 c.loop-x.invariant (rw s.1 at c.if-sets-x-ne0.false))

pub returns : goal.returns
returns c =
    let a = c.args in
    let z = c.in-None.ensures.steps.0 in
    missing-all a.members a.route.now a.stops a.sets.now c.word.ensures (omega arith) c.requires (rw (z, c.minus-off.ensures) at c.loop-x.invariant)
