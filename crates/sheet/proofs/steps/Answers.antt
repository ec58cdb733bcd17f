use Rattle.std.proofs.Common.{true, false, ap, eqb}
use borrow.Author.Tests.{eq-eqb, ne_eqb}
use Rattle.rules.proofs.Refusals.{handed, handed_on, judged}
use Rattle.sheet.specs.Section.{steps_refusal}
use Rattle.sheet.proofs.steps.Goals as goal

pub returns-in_err-p-clause-number : goal.returns-in_err-p-clause-number
unfolding steps_refusal
returns-in_err-p-clause-number c = handed _ _ c.from_residual.ensures.1 (handed_on _ _ (rw c.requires.0 at c.in_err-p.ensures.number))

pub returns-then-ok-clause-number : goal.returns-then-ok-clause-number
unfolding steps_refusal
returns-then-ok-clause-number c = let p = c.in_ok-p.ensures.part in judged 1 true (rw c.requires.0 at c.in_ok-p.ensures.number) (ap (eqb _) (rw c.requires.0 at p.end)) (eq-eqb _ _ c.if-ok.true)

pub returns-else-ok-clause-number : goal.returns-else-ok-clause-number
unfolding steps_refusal
returns-else-ok-clause-number c = let p = c.in_ok-p.ensures.part in judged 1 false (rw c.requires.0 at c.in_ok-p.ensures.number) (ap (eqb _) (rw c.requires.0 at p.end)) (ne_eqb _ _ c.if-ok.false)
