-- The first refusal: the first number of several that is not 0. (A choice by a test is mathlib's `cond`.)
use Prim.Native.Nat.{ℕ, zero, suc}
use mathlib.Core.Bool.{Bool, true, false}
use mathlib.Core.Path.{◌≡◌, refl, ◌∙◌}
use native.Mathlib.Nat.{suc-ne-zero}
use lib.Dec.{eqb}
use borrow.Author.Tests.{eqb-false}
use Rattle.laws.specs.Basic.{or_else, unless}

pub or-else-first : (a b : ℕ) → (a ≡ 0 → ⊥) → a ≡ or_else a b
unfolding or_else
or-else-first zero b h = absurd (h refl)
or-else-first (suc a) b h = refl

pub or-else-next : (a b : ℕ) → a ≡ 0 → or_else a b ≡ b
unfolding or_else
or-else-next a b h = rw h refl

pub or-else-assoc : (a b c : ℕ) → or_else a (or_else b c) ≡ or_else (or_else a b) c
unfolding or_else
or-else-assoc zero b c = refl
or-else-assoc (suc a) b c = refl

-- no refusal of two: neither refuses
pub or-else-zero : (a b : ℕ) → or_else a b ≡ 0 → (a ≡ 0) × (b ≡ 0)
unfolding or_else
or-else-zero zero b h = (refl, h)
or-else-zero (suc a) b h = absurd (suc-ne-zero a h)

pub unless-zero : (b : Bool) (k : ℕ) → unless b (suc k) ≡ 0 → b ≡ true
unless-zero true k e = refl
unless-zero false k e = absurd (suc-ne-zero k e)

-- the same for a number by its name
pub passed : (b : Bool) (k : ℕ) → eqb k 0 ≡ false → unless b k ≡ 0 → b ≡ true
passed true k n e = refl
passed false k n e = absurd (eqb-false k 0 n e)

-- ---- code that asks for h, returns it if it is not 0 and goes on to r otherwise
pub first_stops : {h a : ℕ} (b : ℕ) → h ≡ a → (h ≡ 0 → ⊥) → h ≡ or_else a b
first_stops {h} {a} b e f = e ∙ or-else-first a b (λ z. f (e ∙ z))
