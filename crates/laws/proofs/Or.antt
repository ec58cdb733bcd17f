-- The or of two numbers is below neither, and the law of a loop that gathers the or of many.
use Prim.Native.Nat.{ℕ, ◌+◌, ◌<◌, ◌≤◌}
use mathlib.Core.Path.{◌≡◌}
use native.Mathlib.Nat.{le_trans}
use native.Mathlib.Omega.{arith}
use borrow.Author.Count.{below_more}
use lib.Bits.{bit_or, or_add_and, and_le_l, and_le_r}

pub or_left : (a b : ℕ) → a ≤ bit_or a b
or_left a b = omega (arith, or_add_and a b, and_le_r a b)

pub or_right : (a b : ℕ) → b ≤ bit_or a b
or_right a b = omega (arith, or_add_and a b, and_le_l a b)

-- none of f below i is above `all`: with f i gathered too, none up to i is
pub or-goes : (f : ℕ → ℕ) (i all : ℕ) {v : ℕ} → ((k : ℕ) → k < i → f k ≤ all) → v ≡ f i → (k : ℕ) → k < i + 1 → f k ≤ bit_or all v
or-goes f i all {v} p e = below_more (λ k. f k ≤ bit_or all v) i (λ k b. le_trans (p k b) (or_left all v)) (rw (← e) (or_right all v))
