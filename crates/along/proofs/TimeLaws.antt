-- How E and L go from one stop to the next, and how large they can be.
use mathlib.Core.Path.{◌≡◌, refl, sym, ap, ◌∙◌}
use mathlib.Core.List.{List, [], ◌∷◌}
use mathlib.Core.Logic.{⊎_elim}
use Prim.Native.Nat.{ℕ, zero, suc, ◌+◌, ◌-◌, ◌*◌, ◌<◌, ◌≤◌}
use native.Mathlib.Numerals.{add-one}
use native.Mathlib.Nat.{eq-or-lt_of_le, ne_of_lt}
use native.Mathlib.Omega.{arith}
use lib.ListN.{get_or, set, take, length, length-take, length-set}
use lib.Seq.{get_or-take, get_or-set_same, get_or-set_other}
use lib.IntN.{ℤ, pos, ◌-ℤ◌}
use lib.Signed.{mag}
use Rattle.laws.specs.Basic.{Filled}
use Rattle.rules.specs.Day.{Day}
use Rattle.rules.specs.Time.{start, last_moment, min_z, driven}
use Rattle.rules.specs.Along.{behind, start_at, last_at}
use Rattle.rules.proofs.AlongLaws.{arrives, last-next, last_end, driven-first, driven-next}

-- every number of a day is below 2 ^ 32
pub record Low (d : Day) : Type 0 where
  pub earliest : (x : ℕ) → d.earliest x < 4294967296
  pub moment : (x : ℕ) → mag (last_moment d x) < 4294967296
  pub service : (x : ℕ) → d.service x < 4294967296
  pub seconds : (x y : ℕ) → d.seconds x y < 4294967296
  pub metres : (x y : ℕ) → d.metres x y < 4294967296

pub start_first : (d : Day) (l : List ℕ) (n : ℕ) → 0 < n → d.earliest (get_or l 0 0) ≡ start_at d (take n l) 0
start_first d l n h = rw (get_or-take n l 0 0 h)

pub start-turn : (d : Day) (l : List ℕ) (n i : ℕ) {t : ℕ} → i + 1 < n → t ≡ start_at d (take n l) i
    → arrives d t (get_or l i 0) (get_or l (i + 1) 0) ≡ start_at d (take n l) (i + 1)
start-turn d l n i h e = rw (add-one i, e, ← get_or-take n l i 0 (omega arith), ← get_or-take n l (suc i) 0 (omega arith))

start-far : (d : Day) → Low d → (A : List ℕ) (x : ℕ) → start d A x < 12884901888 * (length A + 1)
start-far d w [] x = omega (arith, w.earliest x)
start-far d w (q ∷ A) x = omega (arith, start-far d w A q, w.earliest x, w.service q, w.seconds q x)

length-behind : (l : List ℕ) (i : ℕ) → length (behind l i) ≡ i
length-behind l zero = refl
length-behind l (suc i) = ap suc (length-behind l i)

pub start-low : (d : Day) → Low d → (l : List ℕ) (i : ℕ) → i < 64 → start_at d l i < 1099511627776
start-low d w l i h = omega (arith, start-far d w (behind l i) (get_or l i 0), length-behind l i)

-- ---- L

-- the list of 64 is f from index lo up to hi: a loop that goes down
pub record From {A : Type 0} (f : ℕ → A) (d : A) (lo hi : ℕ) (l : List A) : Type 0 where
  pub long : length l ≡ 64
  pub at : (k : ℕ) → lo ≤ k → k < hi → get_or l k d ≡ f k

pub from_last : {A : Type 0} (f : ℕ → A) (d : A) (n : ℕ) (l : List A) (v : A) → length l ≡ 64 → 0 < n → n ≤ 64 → v ≡ f (n - 1)
    → From f d (n - 1) n (set l (n - 1) v)
from_last f d n l v m g h e =
    record { long = length-set l (n - 1) v ∙ m; at = λ k a b. let q : k ≡ n - 1 = omega arith in rw q (get_or-set_same l (n - 1) v d (omega arith) ∙ e) }

pub from-down : {A : Type 0} {f : ℕ → A} {d : A} (i : ℕ) {lo hi : ℕ} {l : List A} {v : A} → lo ≡ suc i → lo ≤ 64 → v ≡ f i → From f d lo hi l → From f d i hi (set l i v)
from-down {f = f} {d = d} i {l = l} {v = v} g h e p = record {
  long = length-set l i v ∙ p.long;
  at = λ k a b. ⊎_elim (λ q. rw (← q) (get_or-set_same l i v d (omega (arith, p.long)) ∙ e))
      (λ q. get_or-set_other l i k v d (λ z. ne_of_lt q (sym z)) ∙ p.at k (omega arith) b) (eq-or-lt_of_le a);
}

pub from_all : {A : Type 0} {f : ℕ → A} {d : A} {hi : ℕ} {l : List A} {i : ℕ} → i ≡ 0 → From f d i hi l → Filled 64 f d hi l
from_all e p = record { long = p.long; at = λ k b. p.at k (omega arith) b }

pub last-first : (d : Day) (l : List ℕ) (n : ℕ) → 0 < n → n ≤ length l → last_moment d (get_or l (n - 1) 0) ≡ last_at d (take n l) (n - 1)
last-first d l n g h = ap (last_moment d) (sym (get_or-take n l (n - 1) 0 (omega arith))) ∙ sym (last_end d (take n l) (n - 1) (simp length-take (omega arith)))

-- one step back, to the stop i from the one after it
last_turn : (d : Day) (l : List ℕ) (n i : ℕ) {k : ℕ} {z : ℤ} → k ≡ suc i → k < n → n ≤ length l → z ≡ last_at d (take n l) k
    → min_z (last_moment d (get_or l i 0)) (z -ℤ pos (d.service (get_or l i 0) + d.seconds (get_or l i 0) (get_or l (i + 1) 0))) ≡ last_at d (take n l) i
last_turn d l n i q h g e =
    rw (e, q, add-one i, ← get_or-take n l i 0 (omega arith), ← get_or-take n l (suc i) 0 (omega arith))
    (sym (last-next d (take n l) i (simp length-take (omega arith))))

-- the same from what the code has read
pub last-told : (d : Day) (l : List ℕ) (n i : ℕ) {k : ℕ} {z r o : ℤ} {b c : ℕ} → k ≡ suc i → k < n → n ≤ length l → z ≡ last_at d (take n l) k
    → r ≡ min_z o (z -ℤ pos (b + c)) → o ≡ last_moment d (get_or l i 0) → b ≡ d.service (get_or l i 0) → c ≡ d.seconds (get_or l i 0) (get_or l (i + 1) 0)
    → r ≡ last_at d (take n l) i
last-told d l n i {z = z} g h k e f p q s = f ∙ (λ j. min_z (p j) (z -ℤ pos (q j + s j))) ∙ last_turn d l n i g h k e

-- ---- the length of the route

pub length-first : (d : Day) (l : List ℕ) → 0 ≡ driven d (take 1 l)
length-first d l = sym (driven-first d l)

pub length-turn : (d : Day) (l : List ℕ) (i : ℕ) {t : ℕ} → i + 1 < length l → t ≡ driven d (take (i + 1) l)
    → t + d.metres (get_or l i 0) (get_or l (i + 1) 0) ≡ driven d (take (i + 1 + 1) l)
length-turn d l i {t} h e =
    rw (add-one i, add-one (suc i)) (ap (λ (v : ℕ). v + d.metres (get_or l i 0) (get_or l (suc i) 0)) (rw (add-one i) at e) ∙ sym (driven-next d l i (omega arith)))

driven-far : (d : Day) → Low d → (l : List ℕ) → driven d l ≤ 4294967296 * length l
driven-far d w [] = omega arith
driven-far d w (x ∷ []) = omega arith
driven-far d w (x ∷ k ∷ B) = omega (arith, driven-far d w (k ∷ B), w.metres x k)

pub length-low : (d : Day) → Low d → (l : List ℕ) (n : ℕ) → n ≤ 64 → driven d (take n l) < 1099511627776
length-low d w l n h = omega (arith, driven-far d w (take n l), few)
  where
    few : length (take n l) ≤ 64
    few = simp length-take (omega arith)
