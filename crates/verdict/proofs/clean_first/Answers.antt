use mathlib.Core.Path.{sym, ◌∙◌}
use native.Mathlib.Omega.{arith}
use Rattle.verdict.proofs.Mixing.{unprofiled, profiled, stop-near, walk-stops, walk-next, walk-all}
use Rattle.verdict.proofs.clean_first.Goals as goal

pub returns-then-not-profile : goal.returns-then-not-profile
returns-then-not-profile c = unprofiled _ _ (sym c.profile.ensures ∙ c.if-not-profile.true)

pub offset_bounds-t-x : goal.offset_bounds-t-x
offset_bounds-t-x c = omega (arith, stop-near c.requires c.loop-x.x-index c.loop-x-test.true)

pub bounds-t-x : goal.bounds-t-x
bounds-t-x c = omega (arith, stop-near c.requires c.loop-x.x-index c.loop-x-test.true)

pub returns-then-met-t : goal.returns-then-met-t
returns-then-met-t c =
    profiled _ _ (sym c.profile.ensures ∙ c.if-not-profile.false) (walk-stops c.requires c.loop-x-test.true c.loop-x.invariant c.if-met-t.true)

pub overflow_add-met : goal.overflow_add-met
overflow_add-met c = omega (arith, stop-near c.requires c.loop-x.x-index c.loop-x-test.true)

pub offset_bounds-t-x-in-loop-x : goal.offset_bounds-t-x-in-loop-x
offset_bounds-t-x-in-loop-x c = omega (arith, stop-near c.requires c.loop-x.x-index c.loop-x-test.true)

pub bounds-t-x-in-loop-x : goal.bounds-t-x-in-loop-x
bounds-t-x-in-loop-x c = omega (arith, stop-near c.requires c.loop-x.x-index c.loop-x-test.true)

pub loop-x-preserved : goal.loop-x-preserved
loop-x-preserved c = walk-next c.requires c.loop-x-test.true c.loop-x.invariant c.if-met-t.false

pub returns : goal.returns
returns c =
    profiled _ _ (sym c.profile.ensures ∙ c.if-not-profile.false) (walk-all c.requires c.loop-x-test.false c.loop-x.invariant)
