-- The greatest of the numbers below one, and the law of a loop that finds it.
use Prim.Native.Nat.{ℕ, zero, suc, max, ◌+◌, ◌<◌, ◌≤◌}
use mathlib.Core.Path.{◌≡◌, refl, ap, ◌∙◌}
use mathlib.Core.Bool.{Bool, ◌&&◌}
use mathlib.Core.Logic.{⊎_elim}
use native.Mathlib.Numerals.{add-one}
use native.Mathlib.Nat.{eq-or-lt_of_le, le_of_suc-le-suc}
use native.Mathlib.Omega.{arith}
use lib.Dec.{leb}
use borrow.Author.Tests.{le-leb, lt-leb, leb-true, leb-false}
use Rattle.laws.proofs.Logic.{decided}
use Rattle.laws.specs.Basic.{all_below, peak}

pub peak-none : (f : ℕ → ℕ) → peak f 0 ≡ 0
unfolding peak
peak-none f = refl

-- a turn of the loop
pub peak-next : (f : ℕ → ℕ) (i : ℕ) → peak f (i + 1) ≡ max (peak f i) (f i)
unfolding peak
peak-next f i = rw (add-one i)

-- none of the first n is above it
pub peak-most : (f : ℕ → ℕ) (n i : ℕ) → i < n → f i ≤ peak f n
unfolding peak
peak-most f zero i a = absurd (omega arith)
peak-most f (suc n) i a =
    ⊎_elim (λ e. let z : f i ≡ f n = ap f e in omega arith) (λ l. omega (arith, peak-most f n i l)) (eq-or-lt_of_le (le_of_suc-le-suc a))

pub peak-low : (f : ℕ → ℕ) (n b : ℕ) → 0 < b → ((i : ℕ) → i < n → f i < b) → peak f n < b
unfolding peak
peak-low f zero b z p = z
peak-low f (suc n) b z p = omega (arith, peak-low f n b z (λ i a. p i (omega arith)), p n (omega arith))

-- it is within b exactly if each of them is
pub peak-within : (f : ℕ → ℕ) (n b : ℕ) → leb (peak f n) b ≡ all_below n (λ i. leb (f i) b)
unfolding peak all_below
peak-within f zero b = le-leb 0 b (omega arith)
peak-within f (suc n) b = both (peak f n) (f n) ∙ ap (λ (t : Bool). t && leb (f n) b) (peak-within f n b)
  where
    both : (x y : ℕ) → leb (max x y) b ≡ (leb x b && leb y b)
    both x y =
        decided (leb x b)
        (λ p. decided (leb y b) (λ q. rw (p, q) (le-leb (max x y) b (omega (arith, leb-true x b p, leb-true y b q)))) (λ q. rw (p, q) (lt-leb (max x y) b (omega (arith, leb-false y b q)))))
        (λ p. rw p (lt-leb (max x y) b (omega (arith, leb-false x b p))))

pub peak-same : (f g : ℕ → ℕ) (n : ℕ) → ((i : ℕ) → i < n → f i ≡ g i) → peak f n ≡ peak g n
unfolding peak
peak-same f g zero e = refl
peak-same f g (suc n) e = λ u. max (peak-same f g n (λ i h. e i (omega arith)) u) (e n (omega arith) u)
