-- What the refusals give the theorems: the jobs of a sheet that a call does not refuse, and the tables of one that opening does not refuse either.
use Prim.Native.Nat.{ℕ, ◌<◌}
use mathlib.Core.Path.{◌≡◌, refl, sym, ap, ◌∙◌}
use mathlib.Core.Bool.{true, false, not, ◌&&◌, ◌||◌}
use mathlib.Core.List.{List}
use mathlib.Core.Logic.{⊎_elim, ◌⊎◌, inl, inr, ◌≢◌}
use native.Mathlib.Omega.{arith}
use lib.Dec.{ltb, eqb}
use borrow.Author.Tests.{not-true, ltb-true, ltb-false, eqb-false}
use Rattle.laws.proofs.Logic.{decided, and-true, or-false}
use Rattle.laws.specs.Basic.{In}
use Rattle.laws.proofs.Choice.{or-else-zero, unless-zero}
use Rattle.laws.proofs.Below.{below_at}
use Rattle.laws.proofs.Table.{At, in-tab}
use Rattle.sheet.specs.Section.{n_of, m_of}
use Rattle.rules.specs.Day.{is_inner, triangle}
use Rattle.rules.proofs.Inner.{is-inner-in}
use Rattle.rules.specs.Asked.{Triangle, OneEnd, Proper}
use Rattle.rules.proofs.Given.{shortest-of}
use Rattle.rules.specs.declared.Job.TheVariants.{Transfer}
use Rattle.day.proofs.Fit.{fine-job}
use Rattle.day.specs.Refuse.{call_refusal, open_refusal, clash, apart_at, apart}
use Rattle.day.proofs.RefuseLaws.{call-fine}
use Rattle.day.specs.Tell.{day_of, seconds_of, metres_of, job_in, load_ok, job_fine}

-- ---- the nodes of a transfer

pub proper : (s : List ℕ) → call_refusal s ≡ 0 → Proper (day_of s)
proper s h = record {
  ends = λ a b w i.
      let p = in-tab (m_of s) (job_in s) i in
      let q : job_fine (n_of s) (Transfer a b w) ≡ true = ap (job_fine (n_of s)) (sym p.is) ∙ fine-job s (call-fine s h) p.k p.low in
      let r = and-true (is_inner (n_of s) a && is_inner (n_of s) b) (not (eqb a b)) (and-true _ (load_ok w) q).0 in
      let t = and-true (is_inner (n_of s) a) (is_inner (n_of s) b) r.0 in
      (is-inner-in (n_of s) a t.0, is-inner-in (n_of s) b t.1, eqb-false a b (not-true (eqb a b) r.1));
}

-- ---- a node has at most one transfer end

-- two transfers are one, or have no node in common
abbrev Two : ℕ → ℕ → ℕ → ℕ → ℕ → ℕ → Type 0
Two a b w c d v = ((a ≡ c) × (b ≡ d) × (w ≡ v)) ⊎ ((a ≢ c) × (a ≢ d) × (b ≢ c) × (b ≢ d))

module _ (s : List ℕ) (h : call_refusal s ≡ 0) where
  pub pair : (k j : ℕ) → k < m_of s → j < k → clash (job_in s k) (job_in s j) ≡ false
  unfolding call_refusal apart
  pair k j a b =
      not-true (clash (job_in s k) (job_in s j))
      (below_at k j (λ j. not (clash (job_in s k) (job_in s j)))
      (below_at (m_of s) k (apart_at (job_in s)) (unless-zero _ _ (or-else-zero _ _ (or-else-zero _ _ h).1).0) a) b)

  differ : (k j : ℕ) {a b w c d v : ℕ} → k < m_of s → j < k → job_in s k ≡ Transfer a b w → job_in s j ≡ Transfer c d v
      → (a ≢ c) × (a ≢ d) × (b ≢ c) × (b ≢ d)
  unfolding clash
  differ k j {a} {b} {w} {c} {d} {v} l m p q =
      let t : ((eqb c a || eqb d a) || (eqb c b || eqb d b)) ≡ false = sym (λ u. clash (p u) (q u)) ∙ pair k j l m in
      let x = or-false (eqb c a || eqb d a) (eqb c b || eqb d b) t in
      let y = or-false (eqb c a) (eqb d a) x.0 in
      let z = or-false (eqb c b) (eqb d b) x.1 in
      (λ e. eqb-false c a y.0 (sym e), λ e. eqb-false d a y.1 (sym e), λ e. eqb-false c b z.0 (sym e), λ e. eqb-false d b z.1 (sym e))

  two : {a b w c d v : ℕ} → In (Transfer a b w) (day_of s).jobs → In (Transfer c d v) (day_of s).jobs → Two a b w c d v
  two {a} {b} {w} {c} {d} {v} i j = go (in-tab (m_of s) (job_in s) i) (in-tab (m_of s) (job_in s) j)
    where
      go : At (m_of s) (job_in s) (Transfer a b w) → At (m_of s) (job_in s) (Transfer c d v) → Two a b w c d v
      go x y =
          decided (ltb x.k y.k)
          (λ e. let z = differ y.k x.k y.low (ltb-true x.k y.k e) y.is x.is in
          inr (λ u. z.0 (sym u), λ u. z.2 (sym u), λ u. z.1 (sym u), λ u. z.3 (sym u)))
          (λ e. decided (ltb y.k x.k)
          (λ f. inr (differ x.k y.k x.low (ltb-true y.k x.k f) x.is y.is))
          (λ f. let k : x.k ≡ y.k = omega (arith, ltb-false x.k y.k e, ltb-false y.k x.k f) in
          let r : Transfer a b w ≡ Transfer c d v = sym x.is ∙ ap (job_in s) k ∙ y.is in
          inl (cc, cc, cc)))

  pub one_end : OneEnd (day_of s).jobs
  one_end = record {
    firsts = λ a b b' w w' i j. ⊎_elim (λ u. (u.1, u.2)) (λ u. absurd (u.0 refl)) (two i j);
    seconds = λ a a' b w w' i j. ⊎_elim (λ u. (u.0, u.2)) (λ u. absurd (u.3 refl)) (two i j);
    apart = λ a b c w w' i j. ⊎_elim (λ u. ((proper s h).ends a b w i).2 (sym u.1)) (λ u. u.1 refl) (two i j);
  }

-- ---- the triangle rule

pub short-tables : (s : List ℕ) → open_refusal s ≡ 0 → Triangle (day_of s)
unfolding open_refusal
short-tables s h =
    let p = and-true (triangle (n_of s) (seconds_of s)) (triangle (n_of s) (metres_of s)) (unless-zero _ _ (or-else-zero _ _ h).1) in
    record { seconds = shortest-of (n_of s) (seconds_of s) p.0; metres = shortest-of (n_of s) (metres_of s) p.1 }
