use Rattle.std.proofs.Common.{◌&&◌, true, false, sym, ap₂}
use Rattle.std.proofs.lemmas.Result.{err_from_is_err_and}
use Rattle.rules.proofs.Refusals.{handed_on, judged}
use Rattle.sheet.proofs.PlaceLaws.{found-answer, found-behind, found-still}
use Rattle.day.specs.Refuse.{call_refusal, open_refusal}
use Rattle.day.proofs.Range.{seconds-table, metres-table}
use Rattle.day.proofs.RefuseLaws.{read-zero}
use Rattle.day.proofs.opening.Goals as goal

pub returns-in_err-at-clause-found : goal.returns-in_err-at-clause-found
unfolding open_refusal
returns-in_err-at-clause-found c =
    let p = err_from_is_err_and c.from_residual.result c.from_residual.ensures.1 in
    rw (p.1, p.2) (found-still call_refusal open_refusal c.in_err-at.ensures.found (handed_on _ _ c.in_err-at.ensures.number))

pub triangle_ok-seconds-requires : goal.triangle_ok-seconds-requires
triangle_ok-seconds-requires c = seconds-table c.in_ok-at.ensures.layout

pub triangle_ok-metres-requires : goal.triangle_ok-metres-requires
triangle_ok-metres-requires c = metres-table c.in_ok-at.ensures.layout

pub returns-then-seconds-metres-clause-found : goal.returns-then-seconds-metres-clause-found
unfolding open_refusal
returns-then-seconds-metres-clause-found c =
    let e = c.in_ok-at.ensures in
    let l = e.layout in
    found-behind open_refusal (sym (read-zero _ (sym e.number))) l
    (judged 5 true e.number
    (ap₂ ◌&&◌ (rw (l.seconds, l.nodes) at c.triangle_ok-seconds.ensures) (rw (l.metres, l.nodes) at c.triangle_ok-metres.ensures)) c.if-seconds-metres.true)

pub returns-else-seconds-metres-clause-found : goal.returns-else-seconds-metres-clause-found
unfolding open_refusal
returns-else-seconds-metres-clause-found c =
    let e = c.in_ok-at.ensures in
    let l = e.layout in
    rw c.behind.ensures
    (found-behind open_refusal (sym (read-zero _ (sym e.number))) l
    (judged 5 false e.number
    (ap₂ ◌&&◌ (rw (l.seconds, l.nodes) at c.triangle_ok-seconds.ensures) (rw (l.metres, l.nodes) at c.triangle_ok-metres.ensures)) c.if-seconds-metres.false))

-- ---- the number alone

pub returns-in_err-at-clause-number : goal.returns-in_err-at-clause-number
returns-in_err-at-clause-number c = found-answer open_refusal _ (returns-in_err-at-clause-found c)

pub returns-then-seconds-metres-clause-number : goal.returns-then-seconds-metres-clause-number
returns-then-seconds-metres-clause-number c = found-answer open_refusal _ (returns-then-seconds-metres-clause-found c)

pub returns-else-seconds-metres-clause-number : goal.returns-else-seconds-metres-clause-number
returns-else-seconds-metres-clause-number c = found-answer open_refusal _ (returns-else-seconds-metres-clause-found c)
