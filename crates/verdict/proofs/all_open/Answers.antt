use Rattle.verdict.proofs.Marks.{asked-more, asked-stops, asked-all}
use Rattle.verdict.proofs.all_open.Goals as goal

pub returns-then-not-is_open : goal.returns-then-not-is_open
returns-then-not-is_open c =
    let n = c.in-Some.ensures.steps in asked-stops n.0 c.loop-x.invariant n.1 c.is_open.ensures c.if-not-is_open.true

pub loop-x-preserved : goal.loop-x-preserved
loop-x-preserved c =
    let n = c.in-Some.ensures.steps in rw (n.2, n.1) (asked-more n.0 c.loop-x.invariant n.1 c.is_open.ensures c.if-not-is_open.false)

pub returns : goal.returns
returns c = asked-all (rw c.in-None.ensures.steps.0 at c.loop-x.invariant)
