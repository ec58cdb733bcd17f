-- None of a stretch is above what its quarters give together.
use Prim.Native.Nat.{ℕ, ◌+◌, ◌-◌, ◌*◌, ◌≤◌, ◌<◌}
use mathlib.Core.Path.{◌≡◌, subst}
use native.Mathlib.Nat.{le_trans}
use native.Mathlib.Omega.{arith}
use lib.Bits.{bit_or}
use lib.Dec.{ltb}
use borrow.Author.Tests.{ltb-true, ltb-false}
use Rattle.laws.proofs.Logic.{decided}
use Rattle.laws.proofs.Or.{or_left, or_right}
use Rattle.words.specs.Quarters.{or_of_four}

-- each of the four is at most their or
pub or-four : (f : ℕ → ℕ) (at part : ℕ) → let r = or_of_four f at part in (f at ≤ r) × (f (at + part) ≤ r) × (f (at + part + part) ≤ r) × (f (at + part + part + part) ≤ r)
or-four f at part =
    let a = f at in
    let b = f (at + part) in
    let c = f (at + part + part) in
    let d = f (at + part + part + part) in
    let two = bit_or a b in
    let three = bit_or two c in (
      le_trans (or_left a b) (le_trans (or_left two c) (or_left three d)),
      le_trans (or_right a b) (le_trans (or_left two c) (or_left three d)),
      le_trans (or_right two c) (or_left three d),
      or_right three d,
    )

-- so are all of the four quarters, where every or of four is gathered
pub quarters : (f : ℕ → ℕ) (from part all : ℕ) → ((k : ℕ) → k < part → or_of_four f (from + k) part ≤ all) → (k : ℕ) → k < 4 * part → f (from + k) ≤ all
quarters f from part all h k l =
    decided (ltb k part)
    (λ e. le_trans (or-four f (from + k) part).0 (h k (ltb-true k part e)))
    (λ e. let a = ltb-false k part e in decided (ltb k (2 * part))
    (λ g. let j : k - part < part = omega (arith, ltb-true k (2 * part) g, a) in
    at (omega (arith, a)) (le_trans (or-four f (from + (k - part)) part).1 (h (k - part) j)))
    (λ g. let b = ltb-false k (2 * part) g in decided (ltb k (3 * part))
    (λ i. let j : k - 2 * part < part = omega (arith, ltb-true k (3 * part) i, b) in
    at (omega (arith, b)) (le_trans (or-four f (from + (k - 2 * part)) part).2 (h (k - 2 * part) j)))
    (λ i. let c = ltb-false k (3 * part) i in let j : k - 3 * part < part = omega (arith, l, c) in
    at (omega (arith, c)) (le_trans (or-four f (from + (k - 3 * part)) part).3 (h (k - 3 * part) j)))))
  where
    at : {x : ℕ} → x ≡ from + k → f x ≤ all → f (from + k) ≤ all
    at e p = subst (λ (y : ℕ). f y ≤ all) e p
