use borrow.Author.Tests.{le-leb, lt-leb, lt-ltb, le-ltb}
use Rattle.laws.specs.Basic.{or_else}
use Rattle.sheet.specs.Section.{head_refusal}
use Rattle.sheet.proofs.head.Goals as goal

pub returns-then-have-at-clause-number : goal.returns-then-have-at-clause-number
unfolding head_refusal or_else
returns-then-have-at-clause-number c = simp (le-ltb _ _ c.if-have-at.true)

pub returns-then-count-lo-clause-number : goal.returns-then-count-lo-clause-number
unfolding head_refusal or_else
returns-then-count-lo-clause-number c = simp (lt-ltb _ _ c.if-have-at.false, ← c.word-count.ensures.is, lt-leb _ _ c.if-count-lo.true)

pub returns-then-hi-count-clause-number : goal.returns-then-hi-count-clause-number
unfolding head_refusal or_else
returns-then-hi-count-clause-number c = simp (lt-ltb _ _ c.if-have-at.false, ← c.word-count.ensures.is, le-leb _ _ c.if-count-lo.false, lt-leb _ _ c.if-hi-count.true)

pub returns-then-have-end-clause-number : goal.returns-then-have-end-clause-number
unfolding head_refusal or_else
returns-then-have-end-clause-number c = simp (lt-ltb _ _ c.if-have-at.false, ← c.word-count.ensures.is, le-leb _ _ c.if-count-lo.false, le-leb _ _ c.if-hi-count.false, lt-leb _ _ c.if-have-end.true)

pub returns-clause-number : goal.returns-clause-number
unfolding head_refusal or_else
returns-clause-number c = simp (lt-ltb _ _ c.if-have-at.false, ← c.word-count.ensures.is, le-leb _ _ c.if-count-lo.false, le-leb _ _ c.if-hi-count.false, le-leb _ _ c.if-have-end.false)
