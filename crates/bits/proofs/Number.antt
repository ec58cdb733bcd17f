-- The number of members is the count of ones (01, State).
use mathlib.Core.Path.{◌≡◌, refl, ap, ap₂, sym, ◌∙◌}
use mathlib.Core.Bool.{true, false}
use Prim.Native.Nat.{ℕ, zero, suc, ◌+◌, ◌/◌, ◌%◌, ◌^◌, ◌≤◌, ◌<◌}
use native.Mathlib.Nat.{mod-lt, mod-eq_of_lt}
use native.Mathlib.Numerals.{one-add}
use native.Mathlib.Omega.{arith}
use lib.Pow.{pow_pos, mod-pow-add}
use lib.Count.{ones, ones_in, ones_cat}
use lib.Dec.{eqb}
use borrow.Author.Tests.{eqb-true, eqb-false, ne_eqb}
use Rattle.laws.proofs.Logic.{decided}
use Rattle.laws.proofs.Sum.{sum_same, sum_lt}
use Rattle.laws.specs.Basic.{sum_below}
use Rattle.bits.specs.Places.{digit, has, with, within}
use Rattle.bits.proofs.Digits.{digit_lt, digit-none}
use Rattle.bits.proofs.Members.{digit-has, digit_not, same-has, with-same, with-other, with-yes, within_has, within-misses}

-- how many of the places below k are members
unfoldable pub members : ℕ → ℕ → ℕ
members k w = sum_below k (digit w)

ones-digit : (d : ℕ) → d < 2 → ones d ≡ d
unfolding ones
ones-digit zero h = refl
ones-digit (suc zero) h = refl
ones-digit (suc (suc d)) h = absurd (let z : ◌≡◌ {A = ℕ} 0 1 = omega arith in omega arith)

ones-mod : (k w : ℕ) → ones (w % 2 ^ k) ≡ members k w
unfolding members sum_below digit ones
ones-mod zero w = ap ones (let h : w % 1 ≡ 0 = omega arith in h)
ones-mod (suc k) w =
    ap (λ (x : ℕ). ones (w % 2 ^ x)) (sym (one-add k)) ∙ ap ones (mod-pow-add w 1 k)
    ∙ ones_cat k (w / 2 ^ k % 2 ^ 1) (w % 2 ^ k) (mod-lt w (pow_pos k))
    ∙ ap₂ (λ (x y : ℕ). x + y) (ones-digit (w / 2 ^ k % 2) (omega arith)) (ones-mod k w) ∙ (let h : w / 2 ^ k % 2 + members k w ≡ members k w + w / 2 ^ k % 2 = omega arith in h)

-- the count of ones is the number of members
pub ones-members : (w : ℕ) → w < 2 ^ 64 → ones w ≡ members 64 w
ones-members w h = ap ones (sym (mod-eq_of_lt h)) ∙ ones-mod 64 w

-- there are no ones in 0 alone
few-in : (d n : ℕ) → n ≤ d → ones_in d n ≡ 0 → n ≡ 0
unfolding ones_in
few-in zero n h e = omega arith
few-in (suc d) n h e = omega (arith, few-in d (n / 2) (omega arith) (omega (arith, e)))

pub ones_none : (n : ℕ) → eqb (ones n) 0 ≡ eqb n 0
unfolding ones
ones_none n = decided (eqb n 0)
    (λ e. let z = eqb-true n 0 e in rw z)
    (λ e. ne_eqb (ones_in n n) 0 (λ z. eqb-false n 0 e (few-in n n (omega arith) z)) ∙ sym e)

pub members-none : (k : ℕ) → members k 0 ≡ 0
unfolding members sum_below
members-none zero = refl
members-none (suc k) = omega (arith, members-none k, digit-none k)

pub members-le : (k w : ℕ) → members k w ≤ k
unfolding members sum_below
members-le zero w = omega arith
members-le (suc k) w = omega (arith, members-le k w, digit_lt w k)

-- one place that is no member: not all are
pub members-lt : (k w x : ℕ) → x < k → has w x ≡ false → members k w < k
unfolding members sum_below
members-lt zero w x l e = absurd (omega arith)
members-lt (suc k) w x l e =
    decided (eqb k x)
    (λ q. let z : digit w k ≡ 0 = rw (eqb-true k x q) (digit_not w x e) in omega (arith, members-le k w, z))
    (λ q. let z : k ≡ x → ⊥ = eqb-false k x q in omega (arith, members-lt k w x (omega arith) e, digit_lt w k))

-- a new member is one more
pub members-with : (k w p : ℕ) → p < k → p < 64 → has w p ≡ false → members k (with w p) ≡ members k w + 1
unfolding members sum_below
members-with zero w p l s h = absurd (omega arith)
members-with (suc k) w p l s h =
    decided (eqb k p)
    (λ e. let q = eqb-true k p e in
    let a = sum_same k (digit (with w p)) (digit w) (λ i b. same-has (with w p) w i i (with-other w p i (λ z. omega (arith, z, q)))) in
    let b : digit (with w p) k ≡ 1 = rw q (digit-has _ p (with-same w p s)) in
    let d : digit w k ≡ 0 = rw q (digit_not w p h) in
    omega (arith, a, b, d))
    (λ e. let q : k ≡ p → ⊥ = eqb-false k p e in
    let a = members-with k w p (omega arith) s h in
    let b = same-has (with w p) w k k (with-other w p k q) in
    omega (arith, a, b))

digits_le : (a b p : ℕ) → (has a p ≡ true → has b p ≡ true) → digit a p ≤ digit b p
digits_le a b p f =
    decided (has a p) (λ h. omega (arith, digit-has a p h, digit-has b p (f h))) (λ h. omega (arith, digit_not a p h))

-- a part that lacks a member has fewer
pub members-fewer : (a b p : ℕ) → within a b ≡ true → p < 64 → has b p ≡ true → has a p ≡ false → members 64 a < members 64 b
unfolding members
members-fewer a b p e l h n =
    sum_lt 64 p (digit a) (digit b) (λ q m. digits_le a b q (within_has a b e q m)) l (omega (arith, digit-has b p h, digit_not a p n))

pub members-strict : (a b : ℕ) → within a b ≡ true → within b a ≡ false → members 64 a < members 64 b
members-strict a b e n = let r = within-misses b a n in members-fewer a b r.0 e r.1 r.2 r.3

-- one place put in is at most one more
pub members-most : (w p : ℕ) → p < 64 → members 64 (with w p) ≤ members 64 w + 1
members-most w p l =
    decided (has w p) (λ h. rw (with-yes w p h) (omega arith)) (λ h. omega (arith, members-with 64 w p l l h))

pub members-first : members 64 1 ≡ 1
unfolding ones
members-first = sym (ones-members 1 (omega arith))
