use Rattle.std.proofs.Common.{true, false, sym, arith}
use Rattle.rules.proofs.Refusals.{handed, handed_on, judged}
use Rattle.sheet.specs.Section.{jobs_refusal}
use Rattle.sheet.proofs.PlaceLaws.{head-zero}
use Rattle.sheet.proofs.jobs.Goals as goal

pub returns-in_err-p-clause-number : goal.returns-in_err-p-clause-number
unfolding jobs_refusal
returns-in_err-p-clause-number c = handed _ _ c.from_residual.ensures.1 (handed_on _ _ (rw c.requires.0 at c.in_err-p.ensures.number))

pub jobs_ok-requires : goal.jobs_ok-requires
jobs_ok-requires c = let h = head-zero _ _ _ _ _ (sym c.in_ok-p.ensures.number) in let p = c.in_ok-p.ensures.part in omega arith

pub returns-then-jobs_ok-clause-number : goal.returns-then-jobs_ok-clause-number
unfolding jobs_refusal
returns-then-jobs_ok-clause-number c = let p = c.in_ok-p.ensures.part in judged 3 true (rw c.requires.0 at c.in_ok-p.ensures.number) (rw (p.count, p.from, c.requires.0, c.requires.2) at c.jobs_ok.ensures) c.if-jobs_ok.true

pub returns-else-jobs_ok-clause-number : goal.returns-else-jobs_ok-clause-number
unfolding jobs_refusal
returns-else-jobs_ok-clause-number c = let p = c.in_ok-p.ensures.part in judged 3 false (rw c.requires.0 at c.in_ok-p.ensures.number) (rw (p.count, p.from, c.requires.0, c.requires.2) at c.jobs_ok.ensures) c.if-jobs_ok.false
