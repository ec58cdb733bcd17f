-- H as a sum over the jobs, and how large it can be.
use mathlib.Core.Path.{◌≡◌, refl, sym, ap, ◌∙◌}
use mathlib.Core.Bool.{Bool, true, false, cond, ◌&&◌}
use mathlib.Core.List.{List}
use Prim.Native.Nat.{ℕ, zero, suc, ◌+◌, ◌*◌, ◌<◌, ◌≤◌}
use native.Mathlib.Omega.{arith}
use lib.ListN.{drop}
use Rattle.laws.specs.Basic.{mem, sum_below, tab}
use Rattle.rules.specs.Load.{load_of, aboard, sum}
use Rattle.rules.specs.Along.{behind}
use Rattle.rules.specs.declared.Job.{Job}
use Rattle.rules.specs.declared.Job.TheVariants.{Clean, Soiled, Transfer}

-- what the first j jobs have aboard on the i-th leg of m
unfoldable pub load_sum : (ℕ → Job) → List ℕ → ℕ → ℕ → ℕ
load_sum g m j i = sum_below j (λ k. aboard (behind m (suc i)) (drop (suc i) m) (g k))

-- one more in front
sum-front : (n : ℕ) (f : ℕ → ℕ) → sum_below (suc n) f ≡ f 0 + sum_below n (λ k. f (suc k))
unfolding sum_below
sum-front zero f = omega arith
sum-front (suc n) f = ap (λ (a : ℕ). a + f (suc n)) (sum-front n f) ∙ omega arith

pub sum-tab : (f : Job → ℕ) (n : ℕ) (g : ℕ → Job) → sum f (tab n g) ≡ sum_below n (λ k. f (g k))
unfolding tab sum_below
sum-tab f zero g = refl
sum-tab f (suc n) g = ap (λ (a : ℕ). f (g 0) + a) (sum-tab f n (λ k. g (suc k))) ∙ sym (sum-front n (λ k. f (g k)))

load-all : (g : ℕ → Job) (m : List ℕ) (j i : ℕ) → load_sum g m j i ≡ sum (aboard (behind m (suc i)) (drop (suc i) m)) (tab j g)
unfolding load_sum
load-all g m j i = sym (sum-tab (aboard (behind m (suc i)) (drop (suc i) m)) j g)

-- a part of a load is at most the load
pub cond-low : (b : Bool) (w : ℕ) → cond b w 0 ≤ w
cond-low true w = omega arith
cond-low false w = omega arith

-- ---- H is far from the end of 64 bits

aboard-low : (A B : List ℕ) (j : Job) → aboard A B j ≤ load_of j
aboard-low A B (Clean a w) = cond-low (mem a B) w
aboard-low A B (Soiled a w) = cond-low (mem a A) w
aboard-low A B (Transfer a b w) = cond-low (mem a A && mem b B) w

load_low : (g : ℕ → Job) (m : List ℕ) (j i : ℕ) → ((k : ℕ) → load_of (g k) < 4294967296) → load_sum g m j i ≤ 4294967296 * j
unfolding load_sum sum_below
load_low g m zero i f = omega arith
load_low g m (suc j) i f = omega (arith, load_low g m j i f, aboard-low (behind m (suc i)) (drop (suc i) m) (g j), f j)

-- H of the jobs g, of which there are at most 155
pub load-at-low : (g : ℕ → Job) (m : List ℕ) (j i : ℕ) → ((k : ℕ) → load_of (g k) < 4294967296) → j ≤ 155
    → sum (aboard (behind m (suc i)) (drop (suc i) m)) (tab j g) < 1099511627776
load-at-low g m j i f h = omega (arith, load-all g m j i, load_low g m j i f)
