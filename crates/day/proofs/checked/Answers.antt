use Rattle.std.proofs.Common.{◌≡◌, ◌∙◌, List, ℕ, false, sym, ap₂}
use lib.Dec.{leb}
use Rattle.laws.proofs.Peak.{peak-within}
use borrow.Author.Tests.{not-true, not-false, le-leb, lt-leb}
use Rattle.rules.proofs.Refusals.{handed_on, gone_on, judged, failed, passed}
use Rattle.laws.specs.Basic.{peak}
use Rattle.rules.specs.Load.{load_of}
use Rattle.sheet.specs.Section.{m_of, read_refusal}
use Rattle.day.specs.Tell.{job_in, largest_of}
use Rattle.day.specs.Refuse.{can_ride, call_refusal}
use Rattle.std.proofs.lemmas.Result.{err_from_is_err_and}
use Rattle.sheet.proofs.PlaceLaws.{found-answer, found-behind, found-still}
use Rattle.day.proofs.checked.Goals as goal

pub returns-in_err-at-clause-found : goal.returns-in_err-at-clause-found
unfolding call_refusal
returns-in_err-at-clause-found c =
    let p = err_from_is_err_and c.from_residual.result c.from_residual.ensures.1 in
    rw (p.1, p.2) (found-still read_refusal call_refusal c.in_err-at.ensures.found (handed_on _ _ c.in_err-at.ensures.number))

-- the code's test of the loads is the rule's
light : (s : List ℕ) {m heaviest most : ℕ} → m ≡ m_of s → heaviest ≡ peak (λ k. load_of (job_in s k)) m → most ≡ largest_of s
    → leb heaviest most ≡ can_ride (job_in s) (m_of s) (largest_of s)
unfolding can_ride
light s e h g = ap₂ leb (rw e at h) g ∙ peak-within _ _ _

pub returns-then-not-jobs-clause-found : goal.returns-then-not-jobs-clause-found
unfolding call_refusal
returns-then-not-jobs-clause-found c =
    let e = c.in_ok-at.ensures in
    rw c.behind.ensures
    (found-behind call_refusal e.number e.layout
    (gone_on _ e.number (failed 3 _ (sym (rw e.layout.jobs at c.look_over-jobs.ensures.apart) ∙ not-true _ c.if-not-jobs.true))))

pub returns-then-not-light-clause-found : goal.returns-then-not-light-clause-found
unfolding call_refusal
returns-then-not-light-clause-found c =
    let e = c.in_ok-at.ensures in
    let a = e.layout in
    rw c.behind-then-not-light.ensures
    (found-behind call_refusal e.number a
    (gone_on _ e.number
    (gone_on _ (passed 4 (sym (rw a.jobs at c.look_over-jobs.ensures.apart) ∙ not-false _ c.if-not-jobs.false))
    (failed 5 _ (sym (light _ a.jobs c.look_over-jobs.ensures.heaviest c.largest-most.ensures) ∙ lt-leb _ _ c.if-not-light.true)))))

pub returns-then-ends_admit-clause-found : goal.returns-then-ends_admit-clause-found
unfolding call_refusal
returns-then-ends_admit-clause-found c =
    let e = c.in_ok-at.ensures in
    let a = e.layout in
    found-behind call_refusal e.number a
    (gone_on _ e.number
    (gone_on _ (passed 4 (sym (rw a.jobs at c.look_over-jobs.ensures.apart) ∙ not-false _ c.if-not-jobs.false))
    (gone_on _ (passed 6 (sym (light _ a.jobs c.look_over-jobs.ensures.heaviest c.largest-most.ensures) ∙ le-leb _ _ c.if-not-light.false))
    (passed 7 (sym c.ends_admit.ensures ∙ c.if-ends_admit.true)))))

pub returns-else-ends_admit-clause-found : goal.returns-else-ends_admit-clause-found
unfolding call_refusal
returns-else-ends_admit-clause-found c =
    let e = c.in_ok-at.ensures in
    let a = e.layout in
    rw c.behind-else-ends_admit.ensures
    (found-behind call_refusal e.number a
    (gone_on _ e.number
    (gone_on _ (passed 4 (sym (rw a.jobs at c.look_over-jobs.ensures.apart) ∙ not-false _ c.if-not-jobs.false))
    (judged 7 false (passed 6 (sym (light _ a.jobs c.look_over-jobs.ensures.heaviest c.largest-most.ensures) ∙ le-leb _ _ c.if-not-light.false)) c.ends_admit.ensures c.if-ends_admit.false))))

-- ---- the number alone

pub returns-in_err-at-clause-number : goal.returns-in_err-at-clause-number
returns-in_err-at-clause-number c = found-answer call_refusal _ (returns-in_err-at-clause-found c)

pub returns-then-not-jobs-clause-number : goal.returns-then-not-jobs-clause-number
returns-then-not-jobs-clause-number c = found-answer call_refusal _ (returns-then-not-jobs-clause-found c)

pub returns-then-not-light-clause-number : goal.returns-then-not-light-clause-number
returns-then-not-light-clause-number c = found-answer call_refusal _ (returns-then-not-light-clause-found c)

pub returns-then-ends_admit-clause-number : goal.returns-then-ends_admit-clause-number
returns-then-ends_admit-clause-number c = found-answer call_refusal _ (returns-then-ends_admit-clause-found c)

pub returns-else-ends_admit-clause-number : goal.returns-else-ends_admit-clause-number
returns-else-ends_admit-clause-number c = found-answer call_refusal _ (returns-else-ends_admit-clause-found c)
