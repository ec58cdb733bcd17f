-- Entries of a table as signed numbers of 32 bits: what is left of two rows, both ways round, fits, and its sign is the test.
use mathlib.Core.Path.{◌≡◌, refl, ap, ◌∙◌}
use mathlib.Core.Bool.{Bool, true, false, cond, ◌&&◌, and_assoc}
use Prim.Native.Nat.{ℕ, zero, suc, ◌+◌, ◌-◌, ◌<◌, ◌≤◌}
use native.Mathlib.Omega.{arith}
use lib.Bits.{bit_or, or_lt, or_add_and, and_le_l, and_le_r}
use lib.Dec.{leb, ltb}
use lib.IntN.{ℤ, pos, negsuc, sub_ℕ, ◌+ℤ◌, ◌-ℤ◌}
use lib.Signed.{mag, le_z}
use borrow.Author.Tests.{ltb-true, ltb-false, lt-ltb, le-ltb, le-leb, lt-leb}
use mir.Syntax.{w32}
use mir.Val.{SFits, to_z, of_z}
use mir.Facts.{to_z-of_z, to_z_pos}
use Rattle.laws.proofs.Logic.{decided}

-- ---- differences of numbers

sub_is : (a b : ℕ) → pos a -ℤ pos b ≡ sub_ℕ a b
sub_is a zero = rw (le-ltb a 0 (omega arith)) (ap pos (omega arith))
sub_is a (suc b) = refl

sub-from : (t a b : ℕ) → pos t -ℤ sub_ℕ a b ≡ sub_ℕ (t + b) a
sub-from t a b =
    decided (ltb a b)
    (λ e. let l = ltb-true a b e in rw (e, le-ltb (t + b) a (omega arith)) (ap pos (omega arith)))
    (λ e. let l = ltb-false a b e in rw e (sub_is t (a - b) ∙ decided (ltb t (a - b))
    (λ f. let m = ltb-true t (a - b) f in rw (f, lt-ltb (t + b) a (omega arith)) (ap negsuc (omega arith)))
    (λ f. let m = ltb-false t (a - b) f in rw (f, le-ltb (t + b) a (omega arith)) (ap pos (omega arith)))))

sub-on : (t a b : ℕ) → pos t +ℤ sub_ℕ a b ≡ sub_ℕ (t + a) b
sub-on t a b =
    decided (ltb a b)
    (λ e. let l = ltb-true a b e in rw e (decided (ltb t (suc (b - suc a)))
    (λ f. let m = ltb-true t (suc (b - suc a)) f in rw (f, lt-ltb (t + a) b (omega arith)) (ap negsuc (omega arith)))
    (λ f. let m = ltb-false t (suc (b - suc a)) f in rw (f, le-ltb (t + a) b (omega arith)) (ap pos (omega arith)))))
    (λ e. let l = ltb-false a b e in rw (e, le-ltb (t + a) b (omega arith)) (ap pos (omega arith)))

sub_low : (a b : ℕ) → mag (sub_ℕ a b) ≤ a + b
sub_low a b = go (ltb a b)
  where
    go : (t : Bool) → mag (cond t (negsuc (b - suc a)) (pos (a - b))) ≤ a + b
    go true = omega arith
    go false = omega arith

sub-sign : (a b : ℕ) → le_z (pos 0) (sub_ℕ a b) ≡ leb b a
sub-sign a b =
    decided (ltb a b)
    (λ e. rw (e, lt-leb b a (ltb-true a b e)))
    (λ e. rw (e, le-leb b a (ltb-false a b e)) (le-leb 0 (a - b) (omega arith)))

-- ---- the sign of 32 bits

sign-is : (x : ℕ) → le_z (pos 0) (to_z w32 x) ≡ ltb x 2147483648
sign-is x =
    decided (ltb x 2147483648)
    (λ e. rw e (le-leb 0 x (omega arith)))
    (λ e. rw e)

-- two numbers gathered are below 0 if one of them is
sign-or : (a b : ℕ) → le_z (pos 0) (to_z w32 (bit_or a b)) ≡ (le_z (pos 0) (to_z w32 a) && le_z (pos 0) (to_z w32 b))
sign-or a b =
    rw (sign-is (bit_or a b), sign-is a, sign-is b)
    (decided (ltb a 2147483648)
    (λ e. decided (ltb b 2147483648)
    (λ f. rw (e, f) (lt-ltb (bit_or a b) 2147483648 (or_lt 31 a b (ltb-true a 2147483648 e) (ltb-true b 2147483648 f))))
    (λ f. rw (e, f) (le-ltb (bit_or a b) 2147483648 (omega (arith, or_add_and a b, and_le_l a b, ltb-false b 2147483648 f)))))
    (λ e. rw e (le-ltb (bit_or a b) 2147483648 (omega (arith, or_add_and a b, and_le_r a b, ltb-false a 2147483648 e)))))

pub sign-more : (x : ℕ) (z : ℤ) → mag z < 2147483648 → le_z (pos 0) (to_z w32 (bit_or x (of_z w32 z))) ≡ (le_z (pos 0) (to_z w32 x) && le_z (pos 0) z)
sign-more x z h = sign-or x (of_z w32 z) ∙ ap (λ (y : ℤ). le_z (pos 0) (to_z w32 x) && le_z (pos 0) y) (to_z-of_z {w = w32} {z = z} (record { sfits = h }))

-- ---- a and w are entries of two rows; t and b are the ways between the rows
module _ {a w t b : ℕ} (ha : a ≤ 1000000) (hw : w ≤ 1000000) (ht : t ≤ 1000000) (hb : b ≤ 1000000) where
  below-is : to_z w32 w -ℤ to_z w32 a ≡ sub_ℕ w a
  below-is = rw (to_z_pos w32 {n = w} (omega arith), to_z_pos w32 {n = a} (omega arith)) (sub_is w a)

  pub below-fits : SFits w32 (to_z w32 w -ℤ to_z w32 a)
  below-fits = rw below-is (record { sfits = omega (arith, sub_low w a) })

  below-back : to_z w32 (of_z w32 (to_z w32 w -ℤ to_z w32 a)) ≡ sub_ℕ w a
  below-back = to_z-of_z below-fits ∙ below-is

  -- what is left of the way there, and of the way back
  abbrev there : ℤ
  there = to_z w32 t +ℤ to_z w32 (of_z w32 (to_z w32 w -ℤ to_z w32 a))

  abbrev back : ℤ
  back = to_z w32 b -ℤ to_z w32 (of_z w32 (to_z w32 w -ℤ to_z w32 a))

  there-is : there ≡ sub_ℕ (t + w) a
  there-is = rw (below-back, to_z_pos w32 {n = t} (omega arith)) (sub-on t w a)

  back_is : back ≡ sub_ℕ (b + a) w
  back_is = rw (below-back, to_z_pos w32 {n = b} (omega arith)) (sub-from b w a)

  pub there-fits : SFits w32 there
  there-fits = rw there-is (record { sfits = omega (arith, sub_low (t + w) a) })

  pub back_fits : SFits w32 back
  back_fits = rw back_is (record { sfits = omega (arith, sub_low (b + a) w) })

  there-sign : le_z (pos 0) there ≡ leb a (t + w)
  there-sign = ap (le_z (pos 0)) there-is ∙ sub-sign (t + w) a

  back-sign : le_z (pos 0) back ≡ leb w (b + a)
  back-sign = ap (le_z (pos 0)) back_is ∙ sub-sign (b + a) w

  -- gathered with x, the sign is both tests
  pub left-goes : (x : ℕ) → le_z (pos 0) (to_z w32 (bit_or (bit_or x (of_z w32 there)) (of_z w32 back))) ≡ (le_z (pos 0) (to_z w32 x) && (leb a (t + w) && leb w (b + a)))
  left-goes x =
      sign-more (bit_or x (of_z w32 there)) back back_fits.sfits
      ∙ ap (λ (y : Bool). y && le_z (pos 0) back) (sign-more x there there-fits.sfits)
      ∙ and_assoc (le_z (pos 0) (to_z w32 x)) (le_z (pos 0) there) (le_z (pos 0) back)
      ∙ (λ u. le_z (pos 0) (to_z w32 x) && (there-sign u && back-sign u))
