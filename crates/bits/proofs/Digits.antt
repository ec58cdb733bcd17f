-- A word is its digits: what a sum with, or a difference to, one power of two does to them.
use mathlib.Core.Path.{◌≡◌, refl, ap, sym, ◌∙◌, subst}
use Prim.Native.Nat.{ℕ, zero, suc, ◌+◌, ◌-◌, ◌*◌, ◌/◌, ◌%◌, ◌^◌, ◌≤◌, ◌<◌}
use native.Mathlib.Nat.{pow-succ', div-div-eq-div-mul, div-one, div-eq_of_lt, zero-div}
use native.Mathlib.Omega.{arith}
use lib.Pow.{pow_mono, shr-shr}
use Rattle.bits.specs.Places.{digit}

-- ---- from the lowest

pub digit-zero : (w : ℕ) → digit w 0 ≡ w % 2
unfolding digit
digit-zero w = ap (λ (x : ℕ). x % 2) (div-one w)

pub digit-suc : (w p : ℕ) → digit w (suc p) ≡ digit (w / 2) p
unfolding digit
digit-suc w p = ap (λ (x : ℕ). w / x % 2) (pow-succ' 2 p) ∙ ap (λ (x : ℕ). x % 2) (sym (div-div-eq-div-mul w 2 (2 ^ p)))

-- a shift moves each digit down
pub digit-shr : (w p i : ℕ) → digit (w / 2 ^ p) i ≡ digit w (p + i)
unfolding digit
digit-shr w p i = ap (λ (x : ℕ). x % 2) (shr-shr w p i)

pub digit_lt : (w p : ℕ) → digit w p < 2
unfolding digit
digit_lt w p = omega arith

-- past the word's size every digit is 0
pub digit-high : (k w p : ℕ) → w < 2 ^ k → k ≤ p → digit w p ≡ 0
unfolding digit
digit-high k w p h l = ap (λ (x : ℕ). x % 2) (div-eq_of_lt (omega (arith, pow_mono l)))

pub digit-none : (p : ℕ) → digit 0 p ≡ 0
unfolding digit
digit-none p = ap (λ (x : ℕ). x % 2) (zero-div (2 ^ p))

-- two words with the same digits are one
pub digits-ext : (k w v : ℕ) → w < 2 ^ k → v < 2 ^ k → ((i : ℕ) → i < k → digit w i ≡ digit v i) → w ≡ v
digits-ext zero w v hw hv e = omega arith
digits-ext (suc k) w v hw hv e =
    let lo : w % 2 ≡ v % 2 = sym (digit-zero w) ∙ e 0 (omega arith) ∙ digit-zero v in
    let hw' : w < 2 * 2 ^ k = subst (λ (x : ℕ). w < x) (pow-succ' 2 k) hw in
    let hv' : v < 2 * 2 ^ k = subst (λ (x : ℕ). v < x) (pow-succ' 2 k) hv in
    let hi : w / 2 ≡ v / 2 = digits-ext k (w / 2) (v / 2) (omega arith) (omega arith) (λ i l. sym (digit-suc w i) ∙ e (suc i) (omega arith) ∙ digit-suc v i) in
    omega arith

-- ---- a power of two more or less changes its own digit alone

pub add_same : (p w : ℕ) → digit w p ≡ 0 → digit (w + 2 ^ p) p ≡ 1
add_same zero w e =
    let e' : w % 2 ≡ 0 = sym (digit-zero w) ∙ e in
    let g : (w + 1) % 2 ≡ 1 = omega arith in
    digit-zero (w + 2 ^ 0) ∙ g
add_same (suc p) w e =
    let h : (w + 2 ^ suc p) / 2 ≡ w / 2 + 2 ^ p = omega (arith, pow-succ' 2 p) in
    digit-suc (w + 2 ^ suc p) p ∙ ap (λ (x : ℕ). digit x p) h ∙ add_same p (w / 2) (sym (digit-suc w p) ∙ e)

pub add-other : (p i w : ℕ) → digit w p ≡ 0 → (i ≡ p → ⊥) → digit (w + 2 ^ p) i ≡ digit w i
add-other zero zero w e n = absurd (n refl)
add-other zero (suc i) w e n =
    let e' : w % 2 ≡ 0 = sym (digit-zero w) ∙ e in
    let h : (w + 2 ^ 0) / 2 ≡ w / 2 = omega arith in
    digit-suc (w + 2 ^ 0) i ∙ ap (λ (x : ℕ). digit x i) h ∙ sym (digit-suc w i)
add-other (suc p) zero w e n =
    let h : (w + 2 ^ suc p) % 2 ≡ w % 2 = omega (arith, pow-succ' 2 p) in
    digit-zero (w + 2 ^ suc p) ∙ h ∙ sym (digit-zero w)
add-other (suc p) (suc i) w e n =
    let h : (w + 2 ^ suc p) / 2 ≡ w / 2 + 2 ^ p = omega (arith, pow-succ' 2 p) in
    digit-suc (w + 2 ^ suc p) i ∙ ap (λ (x : ℕ). digit x i) h ∙ add-other p i (w / 2) (sym (digit-suc w p) ∙ e) (λ q. n (ap suc q)) ∙ sym (digit-suc w i)

pub digit-le : (p w : ℕ) → digit w p ≡ 1 → 2 ^ p ≤ w
digit-le zero w e = omega (arith, sym (digit-zero w) ∙ e)
digit-le (suc p) w e = omega (arith, pow-succ' 2 p, digit-le p (w / 2) (sym (digit-suc w p) ∙ e))

pub sub_same : (p w : ℕ) → digit w p ≡ 1 → digit (w - 2 ^ p) p ≡ 0
sub_same zero w e =
    let e' : w % 2 ≡ 1 = sym (digit-zero w) ∙ e in
    let g : (w - 2 ^ 0) % 2 ≡ 0 = omega arith in
    digit-zero (w - 2 ^ 0) ∙ g
sub_same (suc p) w e =
    let h : (w - 2 ^ suc p) / 2 ≡ w / 2 - 2 ^ p = omega (arith, pow-succ' 2 p, digit-le (suc p) w e) in
    digit-suc (w - 2 ^ suc p) p ∙ ap (λ (x : ℕ). digit x p) h ∙ sub_same p (w / 2) (sym (digit-suc w p) ∙ e)

pub sub-other : (p i w : ℕ) → digit w p ≡ 1 → (i ≡ p → ⊥) → digit (w - 2 ^ p) i ≡ digit w i
sub-other p i w e n =
    let b : w - 2 ^ p + 2 ^ p ≡ w = omega (arith, digit-le p w e) in
    sym (add-other p i (w - 2 ^ p) (sub_same p w e) n) ∙ ap (λ (x : ℕ). digit x i) b

-- a sum with a power that was no digit still fits the word
pub add-fits : (k p w : ℕ) → p < k → w < 2 ^ k → digit w p ≡ 0 → w + 2 ^ p < 2 ^ k
add-fits zero p w h hw e = omega arith
add-fits (suc k) zero w h hw e = omega (arith, pow-succ' 2 k, sym (digit-zero w) ∙ e)
add-fits (suc k) (suc p) w h hw e =
    let hw' : w < 2 * 2 ^ k = subst (λ (x : ℕ). w < x) (pow-succ' 2 k) hw in
    omega (arith, pow-succ' 2 k, pow-succ' 2 p, add-fits k p (w / 2) (omega arith) (omega arith) (sym (digit-suc w p) ∙ e))
