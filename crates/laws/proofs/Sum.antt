-- A sum over the numbers below one, and the law of a loop that makes it.
use mathlib.Core.Path.{◌≡◌, refl, ap, ap₂, sym, ◌∙◌}
use mathlib.Core.Bool.{Bool, ◌&&◌}
use mathlib.Core.Logic.{⊎_elim}
use Prim.Native.Nat.{ℕ, zero, suc, ◌+◌, ◌-◌, ◌*◌, ◌≤◌, ◌<◌}
use native.Mathlib.Nat.{zero-add, suc-ne-zero, eq-or-lt_of_le, le_of_suc-le-suc, suc-mul}
use native.Mathlib.Numerals.{add-one}
use native.Mathlib.Omega.{arith}
use lib.Dec.{eqb}
use borrow.Author.Tests.{ne_eqb}
use Rattle.laws.specs.Basic.{all_below, sum_below}

pub sum-none : (f : ℕ → ℕ) → sum_below 0 f ≡ 0
unfolding sum_below
sum-none f = refl

-- a turn of the loop
pub sum-next : (i : ℕ) (f : ℕ → ℕ) {a v : ℕ} → a ≡ sum_below i f → v ≡ f i → a + v ≡ sum_below (i + 1) f
unfolding sum_below
sum-next i f p q = rw add-one (ap₂ (λ (x y : ℕ). x + y) p q)

pub sum_same : (n : ℕ) (f g : ℕ → ℕ) → ((i : ℕ) → i < n → f i ≡ g i) → sum_below n f ≡ sum_below n g
unfolding sum_below
sum_same zero f g h = refl
sum_same (suc n) f g h = ap₂ (λ (x y : ℕ). x + y) (sum_same n f g (λ i l. h i (omega arith))) (h n (omega arith))

pub sum-le : (n : ℕ) (f g : ℕ → ℕ) → ((i : ℕ) → i < n → f i ≤ g i) → sum_below n f ≤ sum_below n g
unfolding sum_below
sum-le zero f g h = omega arith
sum-le (suc n) f g h = omega (arith, sum-le n f g (λ i l. h i (omega arith)), h n (omega arith))

-- nowhere more, and less at one number: the sum is less
pub sum_lt : (n k : ℕ) (f g : ℕ → ℕ) → ((i : ℕ) → i < n → f i ≤ g i) → k < n → f k < g k → sum_below n f < sum_below n g
unfolding sum_below
sum_lt zero k f g h l s = absurd (omega arith)
sum_lt (suc n) k f g h l s =
    ⊎_elim
    (λ e. let s' : f n < g n = rw e at s in omega (arith, sum-le n f g (λ i l. h i (omega arith)), s'))
    (λ b. omega (arith, sum_lt n k f g (λ i l. h i (omega arith)) b s, h n (omega arith)))
    (eq-or-lt_of_le (le_of_suc-le-suc l))

-- each at most m: the sum is at most n times m
pub sum-most : (n m : ℕ) (f : ℕ → ℕ) → ((i : ℕ) → i < n → f i ≤ m) → sum_below n f ≤ n * m
unfolding sum_below
sum-most zero m f h = omega arith
sum-most (suc n) m f h = omega (arith, sum-most n m f (λ i l. h i (omega arith)), h n (omega arith), suc-mul n m)

-- what is 0 from n on adds nothing
sum_more : (j n : ℕ) (f : ℕ → ℕ) → ((i : ℕ) → n ≤ i → f i ≡ 0) → sum_below (j + n) f ≡ sum_below n f
unfolding sum_below
sum_more zero n f h = let e : 0 + n ≡ n = omega arith in rw e refl
sum_more (suc j) n f h = let e : suc j + n ≡ suc (j + n) = omega arith in rw e (omega (arith, sum_more j n f h, h (j + n) (omega arith)))

pub sum-end : (n k : ℕ) (f : ℕ → ℕ) → n ≤ k → ((i : ℕ) → n ≤ i → f i ≡ 0) → sum_below n f ≡ sum_below k f
sum-end n k f l h = let e : (k - n) + n ≡ k = omega arith in sym (rw e at (sum_more (k - n) n f h))

-- a sum is 0 exactly if all its parts are
pub sum-zero : (n : ℕ) (f : ℕ → ℕ) → eqb (sum_below n f) 0 ≡ all_below n (λ k. eqb (f k) 0)
unfolding sum_below all_below
sum-zero zero f = refl
sum-zero (suc n) f = both (sum_below n f) (f n) ∙ ap (λ (b : Bool). b && eqb (f n) 0) (sum-zero n f)
  where
    both : (a b : ℕ) → eqb (a + b) 0 ≡ (eqb a 0 && eqb b 0)
    both zero b = ap (λ (k : ℕ). eqb k 0) (zero-add b)
    both (suc a) b = rw (ne_eqb (suc a) 0 (suc-ne-zero a)) (ne_eqb (suc a + b) 0 (λ e. absurd (omega arith)))
