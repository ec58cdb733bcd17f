-- Signed numbers of 64 bits: what a difference keeps to, what a test says, and that L stays far from the ends.
use mathlib.Core.Path.{◌≡◌, ap, ◌∙◌}
use Prim.Native.Nat.{ℕ, zero, suc, ◌+◌, ◌-◌, ◌*◌, ◌<◌, ◌≤◌}
use mathlib.Core.Bool.{Bool, true, false, cond}
use mathlib.Core.List.{List, [], ◌∷◌}
use native.Mathlib.Omega.{arith}
use lib.Dec.{ltb}
use lib.IntN.{ℤ, pos, negsuc, sub_ℕ, ◌-ℤ◌}
use lib.Signed.{mag, le_z}
use lib.ListN.{get_or, take, drop, length, length-take, length-drop}
use mir.Syntax.{w64}
use mir.Val.{to_z, of_z}
use mir.Facts.{to_z-of_z}
use Rattle.rules.specs.Day.{Day}
use Rattle.rules.specs.Time.{last_moment, in_time, last_start, min_z}
use Rattle.rules.specs.Along.{last_at}
use Rattle.along.proofs.TimeLaws.{Low}

mag-subℕ : (a b k : ℕ) → a ≤ k → b ≤ suc k → mag (sub_ℕ a b) ≤ k
mag-subℕ a b k h g = go (ltb a b)
  where
    go : (t : Bool) → mag (cond t (negsuc (b - suc a)) (pos (a - b))) ≤ k
    go true = omega arith
    go false = omega arith

-- a difference of two below a bound is below it
pub mag-below : {a k : ℕ} (b : ℕ) → a < k → b < k → mag (pos a -ℤ pos b) < k
mag-below zero h g = omega arith
mag-below {a} {k} (suc b) h g = omega (arith, mag-subℕ a (suc b) (k - 1) (omega arith) (omega arith))

-- a difference is no further from 0 than the sum of the two
pub mag-sub : (z : ℤ) (n : ℕ) → mag (z -ℤ pos n) ≤ mag z + n
mag-sub (pos a) zero = omega arith
mag-sub (pos a) (suc n) = mag-subℕ a (suc n) (a + suc n) (omega arith) (omega arith)
mag-sub (negsuc a) zero = mag-subℕ 0 (suc a) (a + 0) (omega arith) (omega arith)
mag-sub (negsuc a) (suc n) = omega arith

mag-min : (a b : ℤ) (k : ℕ) → mag a ≤ k → mag b ≤ k → mag (min_z a b) ≤ k
mag-min a b k p q = go (le_z a b)
  where
    go : (t : Bool) → mag (cond t a b) ≤ k
    go true = p
    go false = q

-- what is written of a number near 0 is read back
pub back-64 : (z : ℤ) → mag z < 9223372036854775808 → to_z w64 (of_z w64 z) ≡ z
back-64 z h = to_z-of_z {w = w64} (record { sfits = h })

last-far : (d : Day) → Low d → (B : List ℕ) (k : ℕ) → mag (last_start d B k) < 12884901888 * (length B + 1)
last-far d w [] k = omega (arith, w.moment k)
last-far d w (m ∷ B) k =
    omega (
      arith,
      w.moment k,
      w.service k,
      w.seconds k m,
      last-far d w B m,
      mag-min (last_moment d k) (last_start d B m -ℤ pos (d.service k + d.seconds k m)) (mag (last_start d B m) + (4294967296 + (d.service k + d.seconds k m))) (omega (arith, w.moment k))
          (omega (arith, mag-sub (last_start d B m) (d.service k + d.seconds k m))),
    )

-- L of a route of at most 64 stops is far from the ends of 64 bits
pub last-low : (d : Day) → Low d → (l : List ℕ) (n i : ℕ) → n ≤ 64 → mag (last_at d (take n l) i) < 1099511627776
last-low d w l n i h = omega (arith, last-far d w (drop (suc i) (take n l)) (get_or (take n l) i 0), few)
  where
    few : length (drop (suc i) (take n l)) < 64
    few = simp (length-drop, length-take) (omega arith)

-- what is stored of L is read back
pub last-kept : (d : Day) → Low d → (l : List ℕ) (n i : ℕ) {z : ℤ} → n ≤ 64 → z ≡ last_at d (take n l) i → to_z w64 (of_z w64 z) ≡ last_at d (take n l) i
last-kept d w l n i {z} h e = rw e (back-64 (last_at d (take n l) i) (omega (arith, last-low d w l n i h)))

-- and what is handed on of a last moment
pub moment-kept : (d : Day) → Low d → (x : ℕ) {z : ℤ} → z ≡ last_moment d x → to_z w64 (of_z w64 z) ≡ last_moment d x
moment-kept d w x {z} e = rw e (back-64 (last_moment d x) (omega (arith, w.moment x)))

-- the answer whether a start at t is in time at x
pub in-time-told : (d : Day) → Low d → (x t : ℕ) {z : ℤ} {b : Bool} → z ≡ last_moment d x → b ≡ le_z (pos t) (to_z w64 (of_z w64 z)) → b ≡ in_time d x t
in-time-told d w x t e f = f ∙ ap (le_z (pos t)) (moment-kept d w x e)
