-- What the refusals give: the jobs of an accepted sheet, by cases.
use Prim.Native.Nat.{ℕ, ◌+◌, ◌*◌, ◌<◌, ◌≤◌}
use mathlib.Core.Path.{◌≡◌, sym, ap, ◌∙◌, subst}
use mathlib.Core.Bool.{true, not, ◌&&◌, ◌||◌, or-false}
use mathlib.Core.List.{List, [], ◌∷◌}
use native.Mathlib.Omega.{arith}
use lib.Dec.{eqb}
use borrow.Author.Tests.{eqb-true}
use Rattle.laws.proofs.Logic.{decided, and-true}
use Rattle.laws.proofs.Below.{below_at}
use Rattle.words.specs.Word.{size, word_at, job_ok, job_at_ok}
use Rattle.sheet.specs.Section.{n_of, m_of, jobs_at}
use Rattle.sheet.specs.Place.{Fine, Laid}
use Rattle.sheet.specs.declared.Layout.{Layout}
use Rattle.rules.specs.Day.{is_inner}
use Rattle.rules.proofs.Inner.{is-inner}
use Rattle.rules.specs.declared.Job.{Job}
use Rattle.rules.specs.declared.Job.TheVariants.{Clean, Soiled, Transfer}
use Rattle.day.specs.Tell.{job_of, job_at, job_in, words_of, load_ok, job_fine}
use Rattle.day.specs.Seen.{Placed}

module _ (n k a b l : ℕ) (h : job_ok n k a b l ≡ true) where
  front : (is_inner n a && load_ok l) ≡ true
  front = (and-true (is_inner n a && load_ok l) _ h).0

  back : (eqb k 3 && (is_inner n b && not (eqb a b)) || (eqb k 1 || eqb k 2) && eqb b 0) ≡ true
  back = (and-true (is_inner n a && load_ok l) _ h).1

  -- four words that are in order say a job that is
  job-fine : job_fine n (job_of k a b l) ≡ true
  job-fine =
      decided (eqb k 1) (λ e. rw e front)
      (λ e. decided (eqb k 2) (λ f. rw (e, f) front)
      (λ f. let x = sym (or-false (eqb k 3 && (is_inner n b && not (eqb a b)))) ∙ (rw (e, f) at back) in
      let y = and-true (is_inner n b) (not (eqb a b)) (and-true (eqb k 3) (is_inner n b && not (eqb a b)) x).1 in
      let z = and-true (is_inner n a) (load_ok l) front in
      rw (e, f, z.0, y.0, y.1, z.1)))

  -- and are the words of that job
  job-words : words_of (job_of k a b l) ≡ k ∷ a ∷ b ∷ l ∷ []
  job-words =
      decided (eqb k 1) (λ e. let q = eqb-true k 1 e in let z = eqb-true b 0 (rw q at back) in rw (e, q, z))
      (λ e. decided (eqb k 2) (λ f. let q = eqb-true k 2 f in let z = eqb-true b 0 (rw q at back) in rw (e, f, q, z))
      (λ f. let x = sym (or-false (eqb k 3 && (is_inner n b && not (eqb a b)))) ∙ (rw (e, f) at back) in
      let q = eqb-true k 3 (and-true (eqb k 3) (is_inner n b && not (eqb a b)) x).0 in rw (e, f, q)))

inner-low : (n x : ℕ) → n ≤ 64 → is_inner n x ≡ true → x < 64
inner-low n x h e = omega (arith, (is-inner n x e).1)

placed : (n : ℕ) (q : Job) → n ≤ 64 → job_fine n q ≡ true → Placed q
placed n (Clean a w) h e = inner-low n a h (and-true _ _ e).0
placed n (Soiled a w) h e = inner-low n a h (and-true _ _ e).0
placed n (Transfer a b w) h e = let p = and-true _ _ (and-true _ _ (and-true _ _ e).0).0 in (inner-low n a h p.0, inner-low n b h p.1)

module _ (s : List ℕ) (f : Fine s) (i : ℕ) (h : i < m_of s) where
  ok : job_at_ok s (n_of s) (jobs_at s + 1) i ≡ true
  ok = below_at (m_of s) i (job_at_ok s (n_of s) (jobs_at s + 1)) f.jobs h

  pub fine-job : job_fine (n_of s) (job_in s i) ≡ true
  unfolding job_at
  fine-job = let p = jobs_at s + 1 + size.job * i in job-fine (n_of s) (word_at s p) (word_at s (p + 1)) (word_at s (p + 2)) (word_at s (p + 3)) ok

  -- the words of the i-th job are the sheet's
  pub same-words : let p = jobs_at s + 1 + size.job * i in words_of (job_in s i) ≡ word_at s p ∷ word_at s (p + 1) ∷ word_at s (p + 2) ∷ word_at s (p + 3) ∷ []
  unfolding job_at
  same-words = let p = jobs_at s + 1 + size.job * i in job-words (n_of s) (word_at s p) (word_at s (p + 1)) (word_at s (p + 2)) (word_at s (p + 3)) ok

  pub placed-job : Placed (job_in s i)
  placed-job = placed (n_of s) (job_in s i) f.n-high fine-job

-- the nodes of a job that is read by the layout have a place in a word
pub placed-read : {s : List ℕ} {at : Layout} → Laid s at → (i : ℕ) → i < at.jobs → {j : Job} → j ≡ job_in s i → Placed j
placed-read {s} p i h e = subst Placed (sym e) (placed-job s p.fine i (omega (arith, ap (λ (l : Layout). l.jobs) p.is)))
