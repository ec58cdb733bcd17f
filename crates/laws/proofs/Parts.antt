-- A list cut into parts of equal length: what putting another part in leaves, and all parts one after another.
use Prim.Native.Nat.{ℕ, zero, suc, ◌+◌, ◌-◌, ◌*◌, ◌≤◌, ◌<◌}
use mathlib.Core.Path.{◌≡◌, refl, sym, ap, ap₂, subst, ◌∙◌}
use mathlib.Core.List.{List, ◌++◌}
use mathlib.Core.Logic.{◌≢◌}
use native.Mathlib.Nat.{zero-mul, suc-mul, mul-le-mul_right}
use native.Mathlib.Omega.{arith}
use Rattle.laws.specs.Basic.{part_at, put_part, joined}
use lib.ListN.{length, get_or, take, drop, length-append, length-drop, take-append-drop}
use lib.Dec.{ltb}
use borrow.Author.Tests.{ltb-true, ltb-false}
use Rattle.laws.proofs.Logic.{decided}
use lib.Seq.{length-take-le, take_at, drop_at, take-add, take-take, take-append-le, get_or-take, get_or-drop, drop-drop}

-- parts before another end before it begins
pub part-before : (w j k : ℕ) → j < k → j * w + w ≤ k * w
part-before w j k h = let m : suc j * w ≤ k * w = mul-le-mul_right w h in omega (arith, m, suc-mul j w)

pub part_length : (w : ℕ) (t : List ℕ) (j : ℕ) → j * w + w ≤ length t → length (part_at w t j) ≡ w
unfolding part_at
part_length w t j h = length-take-le w (drop (j * w) t) (omega (arith, length-drop (j * w) t))

pub get_d_part : (w : ℕ) (t : List ℕ) (j i : ℕ) → i < w → get_or (part_at w t j) i 0 ≡ get_or t (j * w + i) 0
unfolding part_at
get_d_part w t j i h = get_or-take w (drop (j * w) t) i 0 h ∙ get_or-drop (j * w) t i 0

module _ (w : ℕ) (t : List ℕ) (j : ℕ) (l : List ℕ) (fits : j * w + w ≤ length t) (long : length l ≡ w) where
  head-length : length (take (j * w) t) ≡ j * w
  head-length = length-take-le (j * w) t (omega arith)

  pub put-length : length (put_part w t j l) ≡ length t
  unfolding put_part
  put-length =
      omega (arith, head-length, length-append (take (j * w) t) (l ++ drop (j * w + w) t), length-append l (drop (j * w + w) t), length-drop (j * w + w) t)

  -- the part itself
  pub put_same : part_at w (put_part w t j l) j ≡ l
  unfolding part_at put_part
  put_same = ap (take w) (drop_at (take (j * w) t) (l ++ drop (j * w + w) t) (j * w) head-length) ∙ take_at l (drop (j * w + w) t) w long

  -- what lies behind it
  pub put-behind : (m : ℕ) → j * w + w ≤ m → drop m (put_part w t j l) ≡ drop m t
  unfolding put_part
  put-behind m h =
      let past : (j * w + w) + (m - (j * w + w)) ≡ m = omega arith in
      subst (λ (q : ℕ). drop q (take (j * w) t ++ (l ++ drop (j * w + w) t)) ≡ drop q t) past
      (sym (drop-drop (m - (j * w + w)) (j * w + w) (take (j * w) t ++ (l ++ drop (j * w + w) t))) ∙ ap (drop (m - (j * w + w))) seam ∙ drop-drop (m - (j * w + w)) (j * w + w) t)
    where
      seam : drop (j * w + w) (take (j * w) t ++ (l ++ drop (j * w + w) t)) ≡ drop (j * w + w) t
      seam = sym (drop-drop w (j * w) (take (j * w) t ++ (l ++ drop (j * w + w) t))) ∙ ap (drop w) (drop_at (take (j * w) t) (l ++ drop (j * w + w) t) (j * w) head-length)
          ∙ drop_at l (drop (j * w + w) t) w long

  -- another part
  pub put_other : (k : ℕ) → k ≢ j → k * w + w ≤ length t → part_at w (put_part w t j l) k ≡ part_at w t k
  unfolding part_at put_part
  put_other k n h = decided (ltb k j)
      (λ e. sym (front-part k (put_part w t j l) (omega (arith, put-length))) ∙ ap (drop (k * w)) (front (part-before w k j (ltb-true k j e))) ∙ front-part k t h)
      (λ e. ap (take w) (put-behind (k * w) (part-before w j k (omega (arith, ltb-false k j e, n)))))
    where
      front-part : (k : ℕ) (u : List ℕ) → k * w + w ≤ length u → drop (k * w) (take (k * w + w) u) ≡ take w (drop (k * w) u)
      front-part k u g = ap (drop (k * w)) (take-add (k * w) w u) ∙ drop_at (take (k * w) u) (take w (drop (k * w) u)) (k * w) (length-take-le (k * w) u (omega arith))

      front : k * w + w ≤ j * w → take (k * w + w) (put_part w t j l) ≡ take (k * w + w) t
      front g = take-append-le (k * w + w) (take (j * w) t) (l ++ drop (j * w + w) t) (omega (arith, head-length)) ∙ take-take (k * w + w) (j * w) t g

-- the parts, one after another, are the list as far as they go
pub joined-parts : (w : ℕ) (t : List ℕ) (v : ℕ) → v * w ≤ length t → joined v (part_at w t) ≡ take (v * w) t
unfolding joined part_at
joined-parts w t zero h = ap (λ (k : ℕ). take k t) (sym (zero-mul w))
joined-parts w t (suc v) h =
    ap (λ (l : List ℕ). l ++ take w (drop (v * w) t)) (joined-parts w t v (omega (arith, suc-mul v w)))
    ∙ sym (take-add (v * w) w t) ∙ ap (λ (k : ℕ). take k t) (sym (suc-mul v w))

pub joined-whole : (w : ℕ) (t : List ℕ) (v : ℕ) → v * w ≤ length t → joined v (part_at w t) ++ drop (v * w) t ≡ t
joined-whole w t v h = ap (λ (l : List ℕ). l ++ drop (v * w) t) (joined-parts w t v h) ∙ take-append-drop (v * w) t

-- parts that are the same make the same
pub joined_same : (v : ℕ) (f g : ℕ → List ℕ) → ((k : ℕ) → k < v → f k ≡ g k) → joined v f ≡ joined v g
unfolding joined
joined_same zero f g h = refl
joined_same (suc v) f g h = ap₂ (λ (a b : List ℕ). a ++ b) (joined_same v f g (λ k l. h k (omega arith))) (h v (omega arith))
