-- What the machine's operations on words do to the sets: or, and, complement, the lowest set bit.
use mathlib.Core.Path.{◌≡◌, refl, ap, sym, ◌∙◌, subst}
use mathlib.Core.Bool.{Bool, true, false, not, ◌&&◌, ◌||◌, and-true, and-false}
use Prim.Native.Nat.{ℕ, zero, suc, ◌+◌, ◌-◌, ◌*◌, ◌/◌, ◌%◌, ◌^◌, ◌<◌, min, max}
use native.Mathlib.Nat.{pow-succ', mod-eq_of_lt, zero-add}
use native.Mathlib.Numerals.{one-add}
use native.Mathlib.Omega.{arith}
use lib.Pow.{pow-lt, pow_pos}
use lib.Bits.{bit_and, bit_or, and_step, and_shr, and_high, and_lt, and_self, and_le_r, or_zero_l, or_add_and, or_step, or_shr}
use lib.Count.{count_trailing_zeros}
use lib.Dec.{eqb}
use borrow.Author.Tests.{eqb-true, eqb-false, eq-eqb, ne_eqb}
use Rattle.laws.proofs.Logic.{decided}
use Rattle.bits.specs.Places.{digit, has, with, without, minus, join, within, lowest}
use Rattle.bits.proofs.Digits.{digit-zero, digit-suc, digit_lt, digit-none, add_same, add-other}
use Rattle.bits.proofs.Members.{digit-has, digit_not, has-digit, not_digit, has_same, has-ext, false-true, with-yes, with-no, without-yes, without-same, without_other, without-fits, within_has, within-make}

-- 1 << p is 2 ^ p
pub shl_one : (p : ℕ) → p < 64 → (1 * 2 ^ p) % 2 ^ 64 ≡ 2 ^ p
shl_one p h =
    let l : 2 ^ p < 2 ^ 64 = pow-lt h in
    let e : 1 * 2 ^ p ≡ 2 ^ p = omega arith in
    ap (λ (x : ℕ). x % 2 ^ 64) e ∙ mod-eq_of_lt l

-- ---- or with one bit

and_one : (w p : ℕ) → bit_and w (2 ^ p) ≡ digit w p * 2 ^ p
unfolding digit
and_one w p =
    let e : 2 ^ (1 + p) - 2 ^ p ≡ 2 ^ p = ap (λ (x : ℕ). 2 ^ x - 2 ^ p) (one-add p) ∙ omega (arith, pow-succ' 2 p) in
    ap (bit_and w) (sym e) ∙ and_high w 1 p

pub with-mask : (w p : ℕ) → p < 64 → bit_or w (2 ^ p) ≡ with w p
with-mask w p l =
    let s : bit_or w (2 ^ p) + digit w p * 2 ^ p ≡ w + 2 ^ p = ap (λ (x : ℕ). bit_or w (2 ^ p) + x) (sym (and_one w p)) ∙ or_add_and w (2 ^ p) in
    decided (has w p)
    (λ h. let s' : bit_or w (2 ^ p) + 1 * 2 ^ p ≡ w + 2 ^ p = rw (digit-has w p h) at s in
    let g : bit_or w (2 ^ p) ≡ w = omega (arith, s') in
    g ∙ sym (with-yes w p h))
    (λ h. let s' : bit_or w (2 ^ p) + 0 * 2 ^ p ≡ w + 2 ^ p = rw (digit_not w p h) at s in
    let g : bit_or w (2 ^ p) ≡ w + 2 ^ p = omega (arith, s') in
    g ∙ sym (with-no w p l h))

-- two words or-ed are 0 exactly if both are
pub or-none : (a b : ℕ) → eqb (bit_or a b) 0 ≡ eqb a 0 && eqb b 0
or-none a b =
    decided (eqb a 0)
    (λ h. rw h (ap (λ (x : ℕ). eqb (bit_or x b) 0) (eqb-true a 0 h) ∙ ap (λ (x : ℕ). eqb x 0) (or_zero_l b)))
    (λ h. let n : a ≡ 0 → ⊥ = eqb-false a 0 h in rw h (ne_eqb (bit_or a b) 0 (λ e. n (omega (arith, e, or_add_and a b, and_le_r a b)))))

-- ---- and, digit by digit

and_low : (a b : ℕ) → bit_and a b % 2 ≡ min (a % 2) (b % 2)
and_low a b =
    let m : min (a % 2) (b % 2) < 2 = omega arith in
    ap (λ (x : ℕ). x % 2) (and_step a b) ∙ (let e : (bit_and (a / 2) (b / 2) * 2 + min (a % 2) (b % 2)) % 2 ≡ min (a % 2) (b % 2) = omega arith in e)

pub and-digit : (a b p : ℕ) → digit (bit_and a b) p ≡ min (digit a p) (digit b p)
unfolding digit
and-digit a b p = ap (λ (x : ℕ). x % 2) (and_shr a b p) ∙ and_low (a / 2 ^ p) (b / 2 ^ p)

pub has-and : (a b p : ℕ) → has (bit_and a b) p ≡ has a p && has b p
has-and a b p =
    decided (has a p)
    (λ h. decided (has b p)
    (λ k. rw (h, k) (has-digit _ p (omega (arith, and-digit a b p, digit-has a p h, digit-has b p k))))
    (λ k. rw (h, k) (not_digit _ p (omega (arith, and-digit a b p, digit_not b p k)))))
    (λ h. rw h (not_digit _ p (omega (arith, and-digit a b p, digit_not a p h))))

-- ---- or, digit by digit

or-low : (a b : ℕ) → bit_or a b % 2 ≡ max (a % 2) (b % 2)
or-low a b =
    let m : max (a % 2) (b % 2) < 2 = omega arith in
    ap (λ (x : ℕ). x % 2) (or_step a b) ∙ (let e : (bit_or (a / 2) (b / 2) * 2 + max (a % 2) (b % 2)) % 2 ≡ max (a % 2) (b % 2) = omega arith in e)

or-digit : (a b p : ℕ) → digit (bit_or a b) p ≡ max (digit a p) (digit b p)
unfolding digit
or-digit a b p = ap (λ (x : ℕ). x % 2) (or_shr a b p) ∙ or-low (a / 2 ^ p) (b / 2 ^ p)

pub has_join : (a b p : ℕ) → has (join a b) p ≡ has a p || has b p
unfolding join
has_join a b p =
    decided (has a p)
    (λ h. rw h (has-digit _ p (omega (arith, or-digit a b p, digit-has a p h, digit_lt b p))))
    (λ h. decided (has b p)
    (λ k. rw (h, k) (has-digit _ p (omega (arith, or-digit a b p, digit_not a p h, digit-has b p k))))
    (λ k. rw (h, k) (not_digit _ p (omega (arith, or-digit a b p, digit_not a p h, digit_not b p k)))))

-- a & b == a asks whether a is within b
pub within-mask : (a b : ℕ) → a < 2 ^ 64 → b < 2 ^ 64 → eqb (bit_and a b) a ≡ within a b
within-mask a b f g =
    decided (within a b)
    (λ w. eq-eqb (bit_and a b) a (has-ext (bit_and a b) a (and_lt 64 a b f g) f (λ p l. has-and a b p ∙ both (has a p) (has b p) (within_has a b w p l))) ∙ sym w)
    (λ w. ne_eqb (bit_and a b) a (λ e. false-true (sym w ∙ within-make a b (λ p l h. part (has a p) (has b p) h (sym (has-and a b p) ∙ ap (λ (x : ℕ). has x p) e)))) ∙ sym w)
  where
    both : (x y : Bool) → (x ≡ true → y ≡ true) → x && y ≡ x
    both true y h = h refl
    both false y h = refl

    part : (x y : Bool) → x ≡ true → x && y ≡ x → y ≡ true
    part true y h e = e
    part false y h e = absurd (false-true h)

-- ---- the complement

not-digits : (k b p : ℕ) → b < 2 ^ k → p < k → digit (2 ^ k - 1 - b) p + digit b p ≡ 1
not-digits zero b p f l = absurd (omega arith)
not-digits (suc k) b zero f l =
    let f' : b < 2 * 2 ^ k = subst (λ (x : ℕ). b < x) (pow-succ' 2 k) f in
    let e : (2 ^ suc k - 1 - b) % 2 + b % 2 ≡ 1 = omega (arith, pow-succ' 2 k) in
    omega (arith, digit-zero (2 ^ suc k - 1 - b), digit-zero b, e)
not-digits (suc k) b (suc p) f l =
    let f' : b < 2 * 2 ^ k = subst (λ (x : ℕ). b < x) (pow-succ' 2 k) f in
    let e : (2 ^ suc k - 1 - b) / 2 ≡ 2 ^ k - 1 - b / 2 = omega (arith, pow-succ' 2 k) in
    let d : digit (2 ^ suc k - 1 - b) (suc p) ≡ digit (2 ^ k - 1 - b / 2) p = digit-suc (2 ^ suc k - 1 - b) p ∙ ap (λ (x : ℕ). digit x p) e in
    omega (arith, d, digit-suc b p, not-digits k (b / 2) p (omega arith) (omega arith))

pub has-minus : (a b p : ℕ) → b < 2 ^ 64 → p < 64 → has (minus a b) p ≡ has a p && not (has b p)
unfolding minus
has-minus a b p f l =
    has-and a (2 ^ 64 - 1 - b) p ∙ ap (λ (x : Bool). has a p && x)
    (decided (has b p)
    (λ h. rw h (not_digit _ p (omega (arith, not-digits 64 b p f l, digit-has b p h))))
    (λ h. rw h (has-digit _ p (omega (arith, not-digits 64 b p f l, digit_not b p h)))))

pub minus-fits : (a b : ℕ) → a < 2 ^ 64 → minus a b < 2 ^ 64
unfolding minus
minus-fits a b f = and_lt 64 a (2 ^ 64 - 1 - b) f (omega arith)

one_same : (p : ℕ) → has (2 ^ p) p ≡ true
one_same p = has-digit (2 ^ p) p (ap (λ (x : ℕ). digit x p) (sym (zero-add (2 ^ p))) ∙ add_same p 0 (digit-none p))

one-other : (p i : ℕ) → (i ≡ p → ⊥) → has (2 ^ p) i ≡ false
one-other p i n = not_digit (2 ^ p) i (ap (λ (x : ℕ). digit x i) (sym (zero-add (2 ^ p))) ∙ add-other p i 0 (digit-none p) n ∙ digit-none i)

-- w & !(1 << p)
pub without-mask : (w p : ℕ) → w < 2 ^ 64 → p < 64 → minus w (2 ^ p) ≡ without w p
without-mask w p f l =
    has-ext (minus w (2 ^ p)) (without w p) (minus-fits w (2 ^ p) f) (without-fits w p f) (λ i m.
    has-minus w (2 ^ p) i (pow-lt l) m
    ∙ decided (eqb i p)
    (λ e. let q = eqb-true i p e in rw (q, one_same p) (and-false (has w p) ∙ sym (without-same w p)))
    (λ e. let q = eqb-false i p e in rw (one-other p i q, without_other w p i q) (and-true (has w i))))

-- ---- the least member: from the lowest digit, which is 0 or 1

abbrev Even : ℕ → Type 0
Even w = w % 2 ≡ 0

abbrev Odd : ℕ → Type 0
Odd w = w % 2 ≡ 1

by-lowest : {P : Type 0} (w : ℕ) → (Even w → P) → (Odd w → P) → P
by-lowest w f g =
    decided (eqb (w % 2) 0) (λ e. f (eqb-true (w % 2) 0 e)) (λ e. let n : w % 2 ≡ 0 → ⊥ = eqb-false (w % 2) 0 e in g (omega arith))

zeros-even : (k w : ℕ) → Even w → count_trailing_zeros (suc k) w ≡ suc (count_trailing_zeros k (w / 2))
unfolding count_trailing_zeros
zeros-even k w e = rw e

zeros-odd : (k w : ℕ) → Odd w → count_trailing_zeros (suc k) w ≡ 0
unfolding count_trailing_zeros
zeros-odd k w e = rw e

half-fits : (k w : ℕ) → w < 2 ^ suc k → w / 2 < 2 ^ k
half-fits k w f = omega (arith, subst (λ (x : ℕ). w < x) (pow-succ' 2 k) f)

low-has : (k w : ℕ) → 0 < w → w < 2 ^ k → has w (count_trailing_zeros k w) ≡ true
low-has zero w z f = absurd (omega arith)
low-has (suc k) w z f =
    by-lowest w
    (λ e. rw (zeros-even k w e) (has_same w (w / 2) _ _ (digit-suc w (count_trailing_zeros k (w / 2))) ∙ low-has k (w / 2) (omega arith) (half-fits k w f)))
    (λ e. rw (zeros-odd k w e) (has-digit w 0 (digit-zero w ∙ e)))

-- it is a member
pub lowest-has : (w : ℕ) → 0 < w → w < 2 ^ 64 → has w (lowest w) ≡ true
unfolding lowest
lowest-has w z f = low-has 64 w z f

rest-low : (k w : ℕ) → 0 < w → w < 2 ^ k → bit_and w (w - 1) ≡ w - 2 ^ count_trailing_zeros k w
rest-low zero w z f = absurd (omega arith)
rest-low (suc k) w z f =
    by-lowest w
    (λ e. let t = count_trailing_zeros k (w / 2) in
    let h : (w - 1) / 2 ≡ w / 2 - 1 = omega arith in
    let m : min (w % 2) ((w - 1) % 2) ≡ 0 = omega arith in
    let r : bit_and (w / 2) (w / 2 - 1) ≡ w / 2 - 2 ^ t = rest-low k (w / 2) (omega arith) (half-fits k w f) in
    let g : bit_and (w / 2) ((w - 1) / 2) ≡ w / 2 - 2 ^ t = ap (bit_and (w / 2)) h ∙ r in
    rw (zeros-even k w e) (and_step w (w - 1) ∙ omega (arith, g, m, pow-succ' 2 t)))
    (λ e. let h : (w - 1) / 2 ≡ w / 2 = omega arith in
    let m : min (w % 2) ((w - 1) % 2) ≡ 0 = omega arith in
    let g : bit_and (w / 2) ((w - 1) / 2) ≡ w / 2 = ap (bit_and (w / 2)) h ∙ and_self (w / 2) in
    rw (zeros-odd k w e) (and_step w (w - 1) ∙ omega (arith, g, m)))

-- w & (w - 1)
pub rest-mask : (w : ℕ) → 0 < w → w < 2 ^ 64 → bit_and w (w - 1) ≡ without w (lowest w)
unfolding lowest
rest-mask w z f = rest-low 64 w z f ∙ sym (without-yes w (count_trailing_zeros 64 w) (low-has 64 w z f))

-- taking the least place out makes the word smaller
pub rest-less : (w : ℕ) → 0 < w → w < 2 ^ 64 → without w (lowest w) < w
rest-less w z f = omega (arith, without-yes w (lowest w) (lowest-has w z f), pow_pos (lowest w))
