-- A walk along the route with the jobs by node, that finds whether clean comes before soiled.
use mathlib.Core.Path.{◌≡◌, refl, sym, ap, ◌∙◌}
use Prim.Native.Nat.{ℕ, suc, ◌+◌, ◌<◌, ◌≤◌}
use mathlib.Core.Bool.{Bool, true, false, cond, not, ◌&&◌, ◌||◌}
use mathlib.Core.List.{List}
use native.Mathlib.Numerals.{add-one}
use native.Mathlib.Omega.{arith}
use lib.Dec.{leb, eqb}
use lib.ListN.{get_or, take, drop, length, length-take, drop_of_length-le}
use lib.Seq.{get_or-take, drop-cons}
use borrow.Author.Tests.{ne_eqb, leb-true}
use Rattle.laws.proofs.Logic.{decided, and-true, eqb-turn}
use Rattle.laws.proofs.Lists.{none_any}
use Rattle.laws.proofs.Below.{below-same, below-tab}
use Rattle.laws.proofs.Sum.{sum-zero}
use Rattle.laws.specs.Basic.{any, sum_below}
use Rattle.bits.proofs.Members.{false-true}
use Rattle.rules.specs.Day.{Day, is_inner}
use Rattle.rules.specs.Profile.{clean_at, soiled_at, is_clean, is_soiled, clean_first}
use Rattle.rules.specs.declared.Job.{Job}
use Rattle.rules.specs.declared.Job.TheVariants.{Clean, Soiled, Transfer}
use Rattle.sheet.specs.Section.{n_of}
use Rattle.sheet.specs.declared.Layout.{Layout}
use Rattle.day.specs.Tell.{day_of, job_in, load_ok, job_fine}
use Rattle.day.proofs.Fit.{fine-job}
use Rattle.along.specs.Nodes.{clean_load, soiled_load}
use Rattle.along.proofs.ReadyLaws.{jobs-are}
use Rattle.along.specs.Nodes.{Routed}
use Rattle.verdict.specs.Verdict.{profile_kept}
use Rattle.along.proofs.Walking.{near}

-- ---- who is clean, and who is soiled, by the loads

-- a load at a is never 0
load-none : (x a w : ℕ) → load_ok w ≡ true → eqb (cond (eqb x a) w 0) 0 ≡ not (eqb a x)
load-none x a w h = rw (← eqb-turn x a) (decided (eqb x a)
    (λ e. rw e (ne_eqb w 0 (λ z. absurd (omega (arith, leb-true 1 w (and-true (leb 1 w) (leb w 1000) h).0))))) (λ e. rw e))

clean-none : (n x : ℕ) (j : Job) → job_fine n j ≡ true → eqb (clean_load x j) 0 ≡ not (clean_at x j)
clean-none n x (Clean a w) h = load-none x a w (and-true (is_inner n a) (load_ok w) h).1
clean-none n x (Soiled a w) h = refl
clean-none n x (Transfer a b w) h = refl

soiled-none : (n x : ℕ) (j : Job) → job_fine n j ≡ true → eqb (soiled_load x j) 0 ≡ not (soiled_at x j)
soiled-none n x (Clean a w) h = refl
soiled-none n x (Soiled a w) h = load-none x a w (and-true (is_inner n a) (load_ok w) h).1
soiled-none n x (Transfer a b w) h = refl

not_is : (a b : Bool) → a ≡ not b → not a ≡ b
not_is a true e = ap not e
not_is a false e = ap not e

-- without the profile nothing is asked, with it the order is
pub unprofiled : (d : Day) (m : List ℕ) → d.profile ≡ false → true ≡ profile_kept d m
unfolding profile_kept
unprofiled d m e = sym (ap (λ (b : Bool). not b || clean_first d m) e)

pub profiled : (d : Day) (m : List ℕ) {b : Bool} → d.profile ≡ true → b ≡ clean_first d m → b ≡ profile_kept d m
unfolding profile_kept
profiled d m e f = f ∙ sym (ap (λ (b : Bool). not b || clean_first d m) e)

-- before the i-th stop of the route m, where `met` tells whether a soiled stop was met: what is left to ask
pub record Walked (d : Day) (m : List ℕ) (i : ℕ) (met : Bool) : Type 0 where
  pub left : clean_first d m ≡ (not (met && any (is_clean d) (drop i m)) && clean_first d (drop i m))

pub walk_none : (d : Day) (m : List ℕ) → Walked d m 0 false
walk_none d m = record { left = refl }

module _ {s : List ℕ} {at : Layout} {l : List ℕ} {n : ℕ} {t : List ℕ} (r : Routed s at l n t) where
  abbrev d : Day
  d = day_of s

  abbrev m : List ℕ
  m = take n l

  size : length m ≡ n
  size = let a = r.route.long in let b = r.route.most in simp length-take (omega arith)

  -- a stop is a node with a word
  pub stop-near : (i : ℕ) → i < length m → get_or m i 0 < 64
  stop-near i h = let k : i < n = omega (arith, size) in rw (get_or-take n l i 0 k) (near r i k)

  -- what all jobs load at x is not 0 exactly if one of them is there
  some-load : (load : Job → ℕ) (is : Job → Bool) → ((j : Job) → job_fine (n_of s) j ≡ true → eqb (load j) 0 ≡ not (is j)) → {v : ℕ}
      → v ≡ sum_below at.jobs (λ k. load (job_in s k)) → not (eqb v 0) ≡ any is d.jobs
  some-load load is f {v} e = not_is (eqb v 0) (any is d.jobs) (
      ap (λ (u : ℕ). eqb u 0) (e ∙ ap (λ (k : ℕ). sum_below k (λ k. load (job_in s k))) (jobs-are r.laid)) ∙ sum-zero _ (λ k. load (job_in s k))
      ∙ below-same _ _ (λ k. not (is (job_in s k))) (λ k h. f (job_in s k) (fine-job s r.laid.fine k h))
      ∙ below-tab (λ j. not (is j)) _ (job_in s) ∙ none_any is d.jobs)

  clean-told : (x : ℕ) → x < 64 → not (eqb (get_or t x 0) 0) ≡ is_clean d x
  unfolding is_clean
  clean-told x h = some-load (clean_load x) (clean_at x) (clean-none (n_of s) x) (r.jobs.clean x h)

  soiled-told : (x : ℕ) → x < 64 → not (eqb (get_or t (64 + x) 0) 0) ≡ is_soiled d x
  unfolding is_soiled
  soiled-told x h = some-load (soiled_load x) (soiled_at x) (soiled-none (n_of s) x) (r.jobs.soiled x h)

  -- ---- the walk

  module _ {i : ℕ} {met : Bool} (h : i < length m) (w : Walked d m i met) where
    abbrev x : ℕ
    x = get_or m i 0

    -- a stop's part of it
    stop : clean_first d m ≡ (not (met && (is_clean d x || any (is_clean d) (drop (suc i) m))) && (not (is_soiled d x && any (is_clean d) (drop (suc i) m)) && clean_first d (drop (suc i) m)))
    stop = w.left ∙ ap (λ (q : List ℕ). not (met && any (is_clean d) q) && clean_first d q) (drop-cons m i 0 h)

    -- a clean stop behind a soiled one
    pub walk-stops : (met && not (eqb (get_or t x 0) 0)) ≡ true → false ≡ clean_first d m
    walk-stops e = sym (stop ∙ stops met (is_clean d x) (any (is_clean d) (drop (suc i) m)) (not (is_soiled d x && any (is_clean d) (drop (suc i) m)) && clean_first d (drop (suc i) m)) (ap (λ (b : Bool). met && b) (sym (clean-told x (stop-near i h))) ∙ e))
      where
        stops : (a b c f : Bool) → (a && b) ≡ true → (not (a && (b || c)) && f) ≡ false
        stops true true c f e = refl
        stops true false c f e = absurd (false-true e)
        stops false b c f e = absurd (false-true e)

    pub walk-next : (met && not (eqb (get_or t x 0) 0)) ≡ false → Walked d m (i + 1) (met || not (eqb (get_or t (64 + x) 0) 0))
    walk-next e = rw (add-one i, soiled-told x (stop-near i h)) (record {
      left = stop ∙ goes met (is_clean d x) (any (is_clean d) (drop (suc i) m)) (is_soiled d x) (clean_first d (drop (suc i) m))
          (ap (λ (b : Bool). met && b) (sym (clean-told x (stop-near i h))) ∙ e);
    })
      where
        goes : (a b c s f : Bool) → (a && b) ≡ false → (not (a && (b || c)) && (not (s && c) && f)) ≡ (not ((a || s) && c) && f)
        goes true true c s f e = absurd (false-true (sym e))
        goes true false true s f e = refl
        goes true false false true f e = refl
        goes true false false false f e = refl
        goes false b c s f e = refl

  pub walk-all : {i : ℕ} {met : Bool} → length m ≤ i → Walked d m i met → true ≡ clean_first d m
  walk-all {i} {met} h w = sym (w.left ∙ ap (λ (q : List ℕ). not (met && any (is_clean d) q) && clean_first d q) (drop_of_length-le m {i = i} h) ∙ nothing met)
    where
      nothing : (b : Bool) → (not (b && false) && true) ≡ true
      nothing true = refl
      nothing false = refl
