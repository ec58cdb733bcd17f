-- The laws of sets by their members.
use mathlib.Core.Path.{◌≡◌, refl, ap, sym, ◌∙◌, subst}
use mathlib.Core.Bool.{Bool, true, false, not, ◌||◌}
use Prim.Native.Nat.{ℕ, zero, suc, ◌+◌, ◌-◌, ◌/◌, ◌^◌, ◌≤◌, ◌<◌}
use mathlib.Core.Logic.{◌↔◌}
use native.Mathlib.Nat.{pow-succ'}
use native.Mathlib.Omega.{arith}
use lib.Pow.{shr_le}
use lib.Dec.{T, eqb, ltb, eqb-suc-zero}
use borrow.Author.Tests.{eqb-true, eqb-false, eq-eqb, ne_eqb, ltb-true, ltb-false, lt-ltb, le-ltb}
use Rattle.laws.proofs.Logic.{decided, T-ext, true→T, T→true, imp-i, imp-e}
use Rattle.laws.proofs.Below.{below_at, below-make, below-find}
use Rattle.bits.specs.Places.{digit, has, with, without, within}
use Rattle.bits.proofs.Digits.{digit-zero, digit-suc, digit-shr, digit_lt, digit-high, digit-none, digits-ext, add_same, add-other, sub_same, sub-other, add-fits}

-- ---- a member by its digit

pub digit-has : (w p : ℕ) → has w p ≡ true → digit w p ≡ 1
unfolding has
digit-has w p h = eqb-true (digit w p) 1 h

pub digit_not : (w p : ℕ) → has w p ≡ false → digit w p ≡ 0
unfolding has
digit_not w p h =
    let n : digit w p ≡ 1 → ⊥ = eqb-false (digit w p) 1 h in
    omega (arith, digit_lt w p)

pub has-digit : (w p : ℕ) → digit w p ≡ 1 → has w p ≡ true
unfolding has
has-digit w p e = eq-eqb (digit w p) 1 e

pub not_digit : (w p : ℕ) → digit w p ≡ 0 → has w p ≡ false
unfolding has
not_digit w p e = ne_eqb (digit w p) 1 (λ q. omega arith)

-- the same digit, the same answer, and the other way round
pub has_same : (w v p q : ℕ) → digit w p ≡ digit v q → has w p ≡ has v q
unfolding has
has_same w v p q e = ap (λ (x : ℕ). eqb x 1) e

pub same-has : (w v p q : ℕ) → has w p ≡ has v q → digit w p ≡ digit v q
same-has w v p q e =
    decided (has w p) (λ h. digit-has w p h ∙ sym (digit-has v q (sym e ∙ h))) (λ h. digit_not w p h ∙ sym (digit_not v q (sym e ∙ h)))

pub has-none : (p : ℕ) → has 0 p ≡ false
has-none p = not_digit 0 p (digit-none p)

-- the word 1 is the set of place 0
pub has_first : (p : ℕ) → has 1 p ≡ eqb p 0
has_first zero = has-digit 1 0 (digit-zero 1)
has_first (suc p) = not_digit 1 (suc p) (digit-suc 1 p ∙ digit-none p) ∙ sym (eqb-suc-zero p)

pub false-true : false ≡ true → ⊥
false-true e = true→T false e

-- no member past 63
pub has-high : (w p : ℕ) → w < 2 ^ 64 → 64 ≤ p → has w p ≡ false
has-high w p h l = not_digit w p (digit-high 64 w p h l)

pub has-low : (w p : ℕ) → w < 2 ^ 64 → has w p ≡ true → p < 64
has-low w p f h = decided (ltb p 64) (λ l. ltb-true p 64 l) (λ l. absurd (false-true (sym (has-high w p f (ltb-false p 64 l)) ∙ h)))

-- a word has no member from p on exactly if it is 0 shifted by p
pub shr-none : (w p i : ℕ) → w / 2 ^ p ≡ 0 → p ≤ i → has w i ≡ false
shr-none w p i e l =
    let d : p + (i - p) ≡ i = omega arith in
    not_digit w i (ap (digit w) (sym d) ∙ sym (digit-shr w p (i - p)) ∙ ap (λ (x : ℕ). digit x (i - p)) e ∙ digit-none (i - p))

pub none_shr : (w p : ℕ) → w < 2 ^ 64 → ((i : ℕ) → p ≤ i → i < 64 → has w i ≡ false) → w / 2 ^ p ≡ 0
none_shr w p f h =
    digits-ext 64 (w / 2 ^ p) 0 (omega (arith, shr_le w p)) (omega arith) (λ i l.
    digit-shr w p i
    ∙ decided (ltb (p + i) 64) (λ e. digit_not w (p + i) (h (p + i) (omega arith) (ltb-true (p + i) 64 e)))
    (λ e. digit-high 64 w (p + i) f (ltb-false (p + i) 64 e))
    ∙ sym (digit-none i))

-- two words with the same members are one
pub has-ext : (w v : ℕ) → w < 2 ^ 64 → v < 2 ^ 64 → ((p : ℕ) → p < 64 → has w p ≡ has v p) → w ≡ v
has-ext w v f g e = digits-ext 64 w v f g (λ p l. same-has w v p p (e p l))

-- ---- with and without change that place alone

pub with-yes : (w p : ℕ) → has w p ≡ true → with w p ≡ w
unfolding with
with-yes w p h = simp h

pub with-no : (w p : ℕ) → p < 64 → has w p ≡ false → with w p ≡ w + 2 ^ p
unfolding with
with-no w p l h = rw (h, lt-ltb p 64 l)

pub with-far : (w p : ℕ) → 64 ≤ p → with w p ≡ w
unfolding with
with-far w p l = decided (has w p) (λ h. rw h) (λ h. rw (h, le-ltb p 64 l))

pub without-yes : (w p : ℕ) → has w p ≡ true → without w p ≡ w - 2 ^ p
unfolding without
without-yes w p h = simp h

pub without-no : (w p : ℕ) → has w p ≡ false → without w p ≡ w
unfolding without
without-no w p h = simp h

pub with-same : (w p : ℕ) → p < 64 → has (with w p) p ≡ true
with-same w p l =
    decided (has w p) (λ h. rw (with-yes w p h) h)
    (λ h. rw (with-no w p l h) (has-digit _ p (add_same p w (digit_not w p h))))

pub with-other : (w p i : ℕ) → (i ≡ p → ⊥) → has (with w p) i ≡ has w i
with-other w p i n =
    decided (ltb p 64)
    (λ l. decided (has w p) (λ h. ap (λ (x : ℕ). has x i) (with-yes w p h))
    (λ h. ap (λ (x : ℕ). has x i) (with-no w p (ltb-true p 64 l) h) ∙ has_same (w + 2 ^ p) w i i (add-other p i w (digit_not w p h) n)))
    (λ l. ap (λ (x : ℕ). has x i) (with-far w p (ltb-false p 64 l)))

pub has-with : (w p x : ℕ) → p < 64 → has (with w p) x ≡ (eqb p x || has w x)
has-with w p x h =
    decided (eqb p x) (λ e. rw (e, ← eqb-true p x e) (with-same w p h)) (λ e. rw e (with-other w p x (λ z. eqb-false p x e (sym z))))

pub without-same : (w p : ℕ) → has (without w p) p ≡ false
without-same w p =
    decided (has w p) (λ h. rw (without-yes w p h) (not_digit _ p (sub_same p w (digit-has w p h))))
    (λ h. rw (without-no w p h) h)

pub without_other : (w p i : ℕ) → (i ≡ p → ⊥) → has (without w p) i ≡ has w i
without_other w p i n =
    decided (has w p) (λ h. ap (λ (x : ℕ). has x i) (without-yes w p h) ∙ has_same (w - 2 ^ p) w i i (sub-other p i w (digit-has w p h) n))
    (λ h. ap (λ (x : ℕ). has x i) (without-no w p h))

-- what is left was there
pub without-part : (w p i : ℕ) → has (without w p) i ≡ true → has w i ≡ true
without-part w p i h =
    decided (eqb i p) (λ e. absurd (false-true (sym (without-same w p) ∙ ap (λ (q : ℕ). has (without w p) q) (sym (eqb-true i p e)) ∙ h)))
    (λ e. sym (without_other w p i (eqb-false i p e)) ∙ h)

pub with-fits : (w p : ℕ) → w < 2 ^ 64 → with w p < 2 ^ 64
with-fits w p f =
    decided (ltb p 64)
    (λ l. decided (has w p) (λ h. rw (with-yes w p h) f)
    (λ h. rw (with-no w p (ltb-true p 64 l) h) (add-fits 64 p w (ltb-true p 64 l) f (digit_not w p h))))
    (λ l. rw (with-far w p (ltb-false p 64 l)) f)

pub without-fits : (w p : ℕ) → w < 2 ^ 64 → without w p < 2 ^ 64
without-fits w p f =
    decided (has w p) (λ h. rw (without-yes w p h) (omega arith)) (λ h. rw (without-no w p h) f)

-- taking a place that was no member out again gives the set back
pub without-with : (w p : ℕ) → has w p ≡ false → without (with w p) p ≡ w
without-with w p h =
    decided (ltb p 64)
    (λ l. let l' = ltb-true p 64 l in
    without-yes (with w p) p (with-same w p l') ∙ ap (λ (x : ℕ). x - 2 ^ p) (with-no w p l' h) ∙ (let e : w + 2 ^ p - 2 ^ p ≡ w = omega arith in e))
    (λ l. ap (λ (x : ℕ). without x p) (with-far w p (ltb-false p 64 l)) ∙ without-no w p h)

-- ---- within, by members

pub within_has : (a b : ℕ) → within a b ≡ true → (p : ℕ) → p < 64 → has a p ≡ true → has b p ≡ true
unfolding within
within_has a b e p l h =
    T→true (has b p) (imp-e (has a p) (has b p) (true→T _ (below_at 64 p (λ q. not (has a q) || has b q) e l)) (true→T (has a p) h))

pub within-make : (a b : ℕ) → ((p : ℕ) → p < 64 → has a p ≡ true → has b p ≡ true) → within a b ≡ true
unfolding within
within-make a b f =
    below-make 64 (λ q. not (has a q) || has b q)
    (λ p l. T→true _ (imp-i (has a p) (has b p) (λ t. true→T (has b p) (f p l (T→true (has a p) t)))))

pub within-trans : (a b c : ℕ) → within a b ≡ true → within b c ≡ true → within a c ≡ true
within-trans a b c e f = within-make a c (λ p l h. within_has b c f p l (within_has a b e p l h))

pub within-without : (w p : ℕ) → within (without w p) w ≡ true
within-without w p = within-make (without w p) w (λ i l h. without-part w p i h)

pub within_none : (a : ℕ) → within 0 a ≡ true
within_none a = within-make 0 a (λ p l h. absurd (false-true (sym (has-none p) ∙ h)))

-- two words within each other are one
pub within-ext : (a b : ℕ) → a < 2 ^ 64 → b < 2 ^ 64 → within a b ≡ true → within b a ≡ true → a ≡ b
within-ext a b f g e d =
    has-ext a b f g (λ p l. decided (has a p) (λ h. h ∙ sym (within_has a b e p l h))
    (λ h. h ∙ sym (decided (has b p) (λ k. absurd (false-true (sym h ∙ within_has b a d p l k))) (λ k. k))))

-- a set that is not within another has a member that the other lacks
pub within-misses : (a b : ℕ) → within a b ≡ false → (p : ℕ) × (p < 64) × (has a p ≡ true) × (has b p ≡ false)
unfolding within
within-misses a b e =
    let r = below-find 64 (λ q. not (has a q) || has b q) e in
    (r.0, r.1, (split (has a r.0) (has b r.0) r.2).0, (split (has a r.0) (has b r.0) r.2).1)
  where
    split : (x y : Bool) → not x || y ≡ false → (x ≡ true) × (y ≡ false)
    split true y h = (refl, h)
    split false y h = absurd (false-true (sym h))

-- ---- words of any length

less-pow : (a b : ℕ) → a < 2 ^ (a + b)
less-pow zero zero = omega arith
less-pow (suc a) zero = let e : suc a + 0 ≡ suc (a + 0) = omega arith in rw e (omega (arith, less-pow a 0, pow-succ' 2 (a + 0)))
less-pow a (suc b) = let e : a + suc b ≡ suc (a + b) = omega arith in rw e (omega (arith, less-pow a b, pow-succ' 2 (a + b)))

-- two words with the same members are one
pub word-ext : (w v : ℕ) → ((p : ℕ) → has w p ≡ has v p) → w ≡ v
word-ext w v e = digits-ext (w + v) w v (less-pow w v) (subst (λ (k : ℕ). v < 2 ^ k) (omega arith) (less-pow v w)) (λ p l. same-has w v p p (e p))

-- two words that have the members one thing says
pub members-once : {P : ℕ → Type 0} {r v : ℕ} → ((q : ℕ) → T (has r q) ↔ P q) → ((q : ℕ) → T (has v q) ↔ P q) → r ≡ v
members-once {P} {r} {v} a b = word-ext r v (λ q. T-ext (has r q) (has v q) (λ t. (b q).1 ((a q).0 t)) (λ t. (a q).1 ((b q).0 t)))
