-- The transfers of a sheet by the node that each begins at: those in the jobs by node, one for one.
use mathlib.Core.Path.{◌≡◌, refl, sym, ap, ◌∙◌, subst}
use Prim.Native.Nat.{ℕ, zero, suc, ◌+◌, ◌<◌}
use mathlib.Core.Bool.{Bool, true, false, cond, ◌||◌}
use mathlib.Core.List.{List}
use mathlib.Core.Logic.{⊎_elim, ◌≢◌}
use native.Mathlib.Nat.{eq-or-lt_of_le, le_of_suc-le-suc}
use native.Mathlib.Omega.{arith}
use lib.Dec.{ltb, eqb}
use lib.ListN.{get_or}
use borrow.Author.Tests.{eq-eqb, ne_eqb, eqb-true, eqb-false, ltb-true, ltb-false}
use Rattle.laws.proofs.Logic.{decided, T-ext, T→true, true→T, or-false}
use Rattle.laws.proofs.Below.{below_at, below-make}
use Rattle.laws.proofs.Sum.{sum-most}
use Rattle.laws.specs.Basic.{In, all_below, sum_below}
use Rattle.rules.specs.Load.{load_of}
use Rattle.rules.specs.declared.Job.{Job}
use Rattle.rules.specs.declared.Job.TheVariants.{Clean, Soiled, Transfer}
use Rattle.rules.proofs.Inner.{inner-low}
use Rattle.sheet.specs.declared.Layout.{Layout}
use Rattle.day.specs.Refuse.{end_at, clash}
use Rattle.day.specs.Seen.{Placed}
use Rattle.day.specs.Tell.{day_of, job_in}
use Rattle.day.proofs.Asked.{pair, proper, one_end}
use Rattle.walks.specs.Walks.{Legs}
use Rattle.along.specs.Nodes.{Routed, first_load}
use Rattle.along.proofs.ReadyLaws.{jobs-are, nodes-are, nodes-most}
use Rattle.along.proofs.Walking.{is-job, mates, begins, first_some}
use Rattle.settle.specs.declared.strike.Pass.{Pass}
use Rattle.settle.specs.Round.{ride_of, node_of, pair_leaves, pair_from, two_ends, jobs_leave}
use Rattle.settle.proofs.Facts.{job-asked}

-- ---- the job that begins at a node

-- a transfer; where none begins, a job that has no ends
unfoldable pub job_from : List ℕ → ℕ → Job
job_from t x = cond (eqb (get_or t (128 + x) 0) 0) (Clean 0 0) (pair_from t x)

pub from-none : (t : List ℕ) (x : ℕ) → get_or t (128 + x) 0 ≡ 0 → job_from t x ≡ Clean 0 0
unfolding job_from
from-none t x e = rw (eq-eqb (get_or t (128 + x) 0) 0 e) refl

pub from_some : (t : List ℕ) (x : ℕ) → get_or t (128 + x) 0 ≢ 0 → job_from t x ≡ pair_from t x
unfolding job_from
from_some t x e = rw (ne_eqb (get_or t (128 + x) 0) 0 e) refl

-- a sum of which only one part is not 0
sum_one : (n k : ℕ) (f : ℕ → ℕ) → k < n → ((i : ℕ) → i < n → i ≢ k → f i ≡ 0) → sum_below n f ≡ f k
unfolding sum_below
sum_one zero k f h z = absurd (omega arith)
sum_one (suc n) k f h z =
    ⊎_elim
    (λ e. let q : f k ≡ f n = ap f e in omega (arith, q, sum-most n 0 f (λ i m. omega (arith, z i (omega arith) (λ u. absurd (omega arith))))))
    (λ b. omega (arith, sum_one n k f b (λ i m. z i (omega arith)), z n (omega arith) (λ u. absurd (omega arith))))
    (eq-or-lt_of_le (le_of_suc-le-suc h))

-- a job with no end at x does not begin there, nor does one that does not clash with a transfer that does
first_off : (x : ℕ) (j : Job) → end_at x j ≡ false → first_load x j ≡ 0
first_off x (Clean a w) e = refl
first_off x (Soiled a w) e = refl
first_off x (Transfer a b w) e = rw (ne_eqb x a (λ z. eqb-false a x (or-false (eqb a x) (eqb b x) e).0 (sym z))) refl

first-apart : (x b w : ℕ) (j : Job) → clash j (Transfer x b w) ≡ false → first_load x j ≡ 0
unfolding clash
first-apart x b w (Clean c v) e = refl
first-apart x b w (Soiled c v) e = refl
first-apart x b w (Transfer c d v) e =
    rw (or-false (eqb x c) (eqb b c) (or-false (eqb x c || eqb b c) (eqb x d || eqb b d) e).0).0 refl

module _ {s : List ℕ} {at : Layout} {l : List ℕ} {n : ℕ} {t : List ℕ} (r : Routed s at l n t) where
  -- the others do not begin where a transfer does
  others : (k i x b w : ℕ) → k < at.jobs → i < at.jobs → i ≢ k → job_in s k ≡ Transfer x b w → first_load x (job_in s i) ≡ 0
  unfolding clash
  others k i x b w h m ne e =
      let p = jobs-are r.laid in
      decided (ltb i k)
      (λ u. first_off x (job_in s i) (or-false (end_at x (job_in s i)) (end_at b (job_in s i))
      (ap (λ (q : Job). clash q (job_in s i)) (sym e) ∙ pair s r.clear k i (omega arith) (ltb-true i k u))).0)
      (λ u. first-apart x b w (job_in s i)
      (ap (clash (job_in s i)) (sym e) ∙ pair s r.clear i k (omega arith) (omega (arith, ltb-false i k u, ne))))

  -- a transfer is the one that begins at its first node, which is one of the day's
  from-job : (k a b w : ℕ) → k < at.jobs → job_in s k ≡ Transfer a b w → (a < at.nodes) × (pair_from t a ≡ Transfer a b w)
  from-job k a b w h e =
      let i = subst (λ (j : Job). In j (day_of s).jobs) e (is-job r k h) in
      let low : a < at.nodes = omega (arith, (inner-low (day_of s) ((proper s r.clear).ends a b w i).0).1, nodes-are r.laid) in
      let near : a < 64 = omega (arith, nodes-most r.laid) in
      let load : get_or t (128 + a) 0 ≡ w = r.jobs.first a near
      ∙ sum_one at.jobs k (λ j. first_load a (job_in s j)) h (λ j m z. others k j a b w h m z e) ∙ ap (first_load a) e ∙ rw (eq-eqb a a refl) refl in
      let mate = (mates r k a b w h e a near).1 refl in (low, λ u. Transfer a (mate u) (load u))

  -- the transfer that begins at a node is one of the sheet's
  begun : (x : ℕ) → x < 64 → get_or t (128 + x) 0 ≢ 0 → (k : ℕ) × (k < at.jobs) × (pair_from t x ≡ job_in s k)
  begun x h z = let q = begins r x h z in (q.0, q.3, (from-job q.0 x q.1 q.2 q.3 q.4).1 ∙ sym q.4)

  -- what striking it asks
  pub from-asked : {h : List ℕ} (pass : Pass) → Legs l h (ride_of pass 0) → (x : ℕ) → x < 64 → get_or t (128 + x) 0 ≢ 0
      → Placed (pair_from t x) × (two_ends (pair_from t x) ≡ true) × Legs l h (ride_of pass (load_of (pair_from t x)))
  from-asked pass w x h z = let q = begun x h z in job-asked r.laid pass w q.0 q.1 q.2

  -- and has the node for its first end
  from_in : (x : ℕ) → x < 64 → {a b w : ℕ} → job_from t x ≡ Transfer a b w → (x ≡ a) × In (Transfer a b w) (day_of s).jobs
  from_in x h {a} {b} {w} e =
      decided (eqb (get_or t (128 + x) 0) 0)
      (λ z. absurd (no-ends (sym (from-none t x (eqb-true (get_or t (128 + x) 0) 0 z)) ∙ e)))
      (λ z. let n = eqb-false (get_or t (128 + x) 0) 0 z in
      let q = begun x h n in
      let p = sym (from_some t x n) ∙ e in
      (ap node_of p, subst (λ (j : Job). In j (day_of s).jobs) (sym q.2 ∙ p) (is-job r q.0 q.1)))
    where
      no-ends : Clean 0 0 ≡ Transfer a b w → ⊥
      no-ends u = true→T false (ap (end_at a) u ∙ rw (eq-eqb a a refl) refl)

  -- no transfer that begins at another node has an end at one of its own
  pub from-apart : (x : ℕ) → x < 64 → (a b w : ℕ) → job_from t x ≡ Transfer a b w → (z : ℕ) → z < x
      → (end_at a (job_from t z) || end_at b (job_from t z)) ≡ false
  from-apart x h a b w e z m = go (job_from t z) refl
    where
      go : (q : Job) → job_from t z ≡ q → (end_at a q || end_at b q) ≡ false
      go (Clean c v) u = refl
      go (Soiled c v) u = refl
      go (Transfer c d v) u =
          let one = one_end s r.clear in
          let i = from_in x h e in
          let j = from_in z (omega arith) u in
          let ne : c ≢ a = λ k. absurd (omega (arith, i.0, j.0, k)) in
          rw (
            ne_eqb c a ne,
            ne_eqb d a (λ k. one.apart a b c w v i.1 (subst (λ (y : ℕ). In (Transfer c y v) (day_of s).jobs) k j.1)),
            ne_eqb c b (λ k. one.apart c d a v w j.1 (subst (λ (y : ℕ). In (Transfer a y w) (day_of s).jobs) (sym k) i.1)),
            ne_eqb d b (λ k. ne (sym (one.seconds a c b w v i.1 (subst (λ (y : ℕ). In (Transfer c y v) (day_of s).jobs) k j.1)).0)),
          ) refl

  -- the jobs that begin at the nodes leave what those of the sheet leave
  pub from_all : (ws h : List ℕ) (p : Pass) (y i : ℕ)
      → jobs_leave (pair_leaves ws l h p) (job_from t) at.nodes y i ≡ jobs_leave (pair_leaves ws l h p) (job_in s) at.jobs y i
  unfolding jobs_leave pair_leaves
  from_all ws h p y i = T-ext (all_below at.nodes (λ x. f (job_from t x))) (all_below at.jobs (λ k. f (job_in s k)))
      (λ u. true→T _ (below-make at.jobs (λ k. f (job_in s k)) (λ k m. there (T→true _ u) k m (job_in s k) refl)))
      (λ u. true→T _ (below-make at.nodes (λ x. f (job_from t x)) (back (T→true _ u))))
    where
      f : Job → Bool
      f q = pair_leaves ws l h p q y i

      there : all_below at.nodes (λ x. f (job_from t x)) ≡ true → (k : ℕ) → k < at.jobs → (q : Job) → job_in s k ≡ q → f q ≡ true
      there u k m (Clean a w) e = refl
      there u k m (Soiled a w) e = refl
      there u k m (Transfer a b w) e =
          let z = from-job k a b w m e in
          let n = first_some r k a b w m e (omega (arith, z.0, nodes-most r.laid)) in
          ap f (sym (from_some t a n ∙ z.1)) ∙ below_at at.nodes a (λ x. f (job_from t x)) u z.0

      back : all_below at.jobs (λ k. f (job_in s k)) ≡ true → (x : ℕ) → x < at.nodes → f (job_from t x) ≡ true
      back u x m =
          decided (eqb (get_or t (128 + x) 0) 0)
          (λ e. ap f (from-none t x (eqb-true (get_or t (128 + x) 0) 0 e)))
          (λ e. let n = eqb-false (get_or t (128 + x) 0) 0 e in
          let q = begun x (omega (arith, nodes-most r.laid)) n in
          ap f (from_some t x n ∙ q.2) ∙ below_at at.jobs q.0 (λ k. f (job_in s k)) u q.1)
