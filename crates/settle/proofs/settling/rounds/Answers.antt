use mathlib.Core.Path.{sym, ◌∙◌}
use borrow.Author.Tests.{not-true, not-false}
use Rattle.along.proofs.ReadyLaws.{nodes-most}
use Rattle.along.proofs.Facts.{past_same}
use Rattle.settle.proofs.Facts.{legs, marked}
use Rattle.settle.proofs.Again.{ready-first, none_left, one_left, two-left}
use Rattle.settle.proofs.settling.rounds.Goals as goal

pub same-requires : goal.same-requires
same-requires c =
    let r = c.requires.ready.0 in
    let f = ready-first c.args.pass.van r (rw c.requires.value.0 at c.round.ensures) in
    (r.sized, f.sized, nodes-most r.laid, past_same r f)

pub returns-then-same : goal.returns-then-same
returns-then-same c =
    none_left c.args.pass.van c.requires.ready.0 (rw c.requires.value.0 at c.round.ensures) (sym c.same.ensures ∙ c.if-same.true)

pub strike_pairs-requires-clause-ready : goal.strike_pairs-requires-clause-ready
strike_pairs-requires-clause-ready c =
    let p = c.requires.ready in (ready-first c.args.pass.van p.0 (rw c.requires.value.0 at c.round.ensures), legs p.0 p.1)

pub strike_pairs-requires-clause-marked : goal.strike_pairs-requires-clause-marked
strike_pairs-requires-clause-marked c = let p = c.requires.ready in (marked p.0 p.1.spots p.1.before, c.requires.value.1)

pub returns-then-strike_pairs : goal.returns-then-strike_pairs
returns-then-strike_pairs c =
    two-left c.args.pass c.requires.ready.0 (rw c.requires.value.0 at c.round.ensures) c.requires.ready.1.loads c.strike_pairs.ensures.0
    (sym c.same.ensures ∙ c.if-same.false) (not-true _ (sym c.strike_pairs.ensures.1 ∙ c.if-strike_pairs.true))

pub returns-else-strike_pairs : goal.returns-else-strike_pairs
returns-else-strike_pairs c =
    one_left c.args.pass c.requires.ready.0 (rw c.requires.value.0 at c.round.ensures) c.requires.ready.1.loads c.strike_pairs.ensures.0
    (sym c.same.ensures ∙ c.if-same.false) (not-false _ (sym c.strike_pairs.ensures.1 ∙ c.if-strike_pairs.false))
