use Rattle.std.proofs.Common.{arith}
use Rattle.rules.proofs.Refusals.{handed, handed_on, gone_on}
use Rattle.sheet.proofs.PlaceLaws.{limits-zero, nodes-zero}
use Rattle.sheet.proofs.from_jobs.Goals as goal

pub jobs-requires : goal.jobs-requires
jobs-requires c =
    let n = c.requires.stands.1 in
    let v = limits-zero _ c.requires.fine.0 in
    let h = nodes-zero _ c.requires.fine.1 in
    (n.end, omega arith, n.count, omega arith, omega arith)

pub returns-in_err-jobs-clause-number : goal.returns-in_err-jobs-clause-number
returns-in_err-jobs-clause-number c = handed _ _ c.from_residual.ensures.1 (handed_on _ _ c.in_err-jobs.ensures.number)

pub returns-clause-number : goal.returns-clause-number
returns-clause-number c = gone_on _ c.in_ok-jobs.ensures.number c.later.ensures.number
