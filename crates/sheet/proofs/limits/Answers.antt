use Rattle.std.proofs.Common.{◌≡◌, ◌∙◌, ◌+◌, ◌*◌, ◌%◌, ◌≤◌, ◌<◌, List, ℕ, true, false, ◌&&◌, sym, arith}
use borrow.Author.Tests.{lt-ltb, le-ltb, eq-eqb, ne_eqb}
use Rattle.laws.specs.Basic.{or_else, unless}
use Rattle.rules.specs.Numbers.{refusal, most_vans}
use Rattle.rules.proofs.Refusals.{handed, handed_on, judged}
use Rattle.words.specs.Word.{size, words, word_at, profile_ok}
use Rattle.sheet.specs.Section.{vans_at, head_refusal, limits_values, limits_refusal}
use Rattle.sheet.proofs.PlaceLaws.{head-zero, limits-left}
use Rattle.sheet.proofs.limits.Goals as goal

-- what is left to ask once the count is there and leaves one word over
left : (s : List ℕ) → vans_at < words s → word_at s vans_at % size.van ≡ 1
    → or_else (head_refusal s vans_at (size.van + 1) (size.van * most_vans + 1) 1) (unless (limits_values s) refusal.VALUE) ≡ limits_refusal s
left s l e = limits-left s (lt-ltb _ _ l) (eq-eqb _ _ e)

pub returns-then-s-lt4-clause-number : goal.returns-then-s-lt4-clause-number
unfolding limits_refusal or_else
returns-then-s-lt4-clause-number c =
    let h : words c.args.s.now ≤ vans_at = omega (arith, c.if-s-lt4.true) in
    simp (le-ltb _ _ h)

pub returns-then-word-ne1-clause-number : goal.returns-then-word-ne1-clause-number
unfolding limits_refusal or_else
returns-then-word-ne1-clause-number c =
    let h : vans_at < words c.args.s.now = omega (arith, c.if-s-lt4.false) in
    simp (lt-ltb _ _ h, ← c.word.ensures.is, ne_eqb _ _ c.if-word-ne1.true)

pub returns-in_err-p-clause-number : goal.returns-in_err-p-clause-number
returns-in_err-p-clause-number c =
    handed _ _ c.from_residual.ensures.1 (handed_on _ _ c.in_err-p.ensures.number ∙ left c.args.s.now (omega (arith, c.if-s-lt4.false)) (rw c.word.ensures.is at c.if-word-ne1.false))

pub word-profile-requires : goal.word-profile-requires
word-profile-requires c =
    let h = head-zero _ _ _ _ _ (sym c.in_ok-p.ensures.number) in
    let p = c.in_ok-p.ensures.part in
    let r = rw c.word.ensures.is at c.if-word-ne1.false in
    omega arith

pub all_limits_ok-ok-requires : goal.all_limits_ok-ok-requires
all_limits_ok-ok-requires c =
    let h = head-zero _ _ _ _ _ (sym c.in_ok-p.ensures.number) in
    let p = c.in_ok-p.ensures.part in
    let r = rw c.word.ensures.is at c.if-word-ne1.false in
    omega arith

pub returns-then-ok-profile-clause-number : goal.returns-then-ok-profile-clause-number
returns-then-ok-profile-clause-number c =
    let p = c.in_ok-p.ensures.part in
    judged 3 true c.in_ok-p.ensures.number
    (λ i. (rw (p.count, p.from) at c.all_limits_ok-ok.ensures) i && profile_ok ((rw (p.count, p.from) at c.word-profile.ensures.is) i)) c.if-ok-profile.true
    ∙ left c.args.s.now (omega (arith, c.if-s-lt4.false)) (rw c.word.ensures.is at c.if-word-ne1.false)

pub returns-else-ok-profile-clause-number : goal.returns-else-ok-profile-clause-number
returns-else-ok-profile-clause-number c =
    let p = c.in_ok-p.ensures.part in
    judged 3 false c.in_ok-p.ensures.number
    (λ i. (rw (p.count, p.from) at c.all_limits_ok-ok.ensures) i && profile_ok ((rw (p.count, p.from) at c.word-profile.ensures.is) i)) c.if-ok-profile.false
    ∙ left c.args.s.now (omega (arith, c.if-s-lt4.false)) (rw c.word.ensures.is at c.if-word-ne1.false)
