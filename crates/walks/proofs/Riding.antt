-- The walks leg by leg: what each leg leaves of a word, and that a ride with room on every leg goes on.
use mathlib.Core.Path.{◌≡◌, refl, sym, ap, ◌∙◌, subst}
use Prim.Native.Nat.{ℕ, zero, suc, ◌+◌, ◌-◌, ◌<◌, ◌≤◌}
use mathlib.Core.Bool.{Bool, true, ◌&&◌, ◌||◌, or-true}
use mathlib.Core.List.{List}
use mathlib.Core.Logic.{⊎_elim}
use native.Mathlib.Numerals.{add-one}
use native.Mathlib.Nat.{eq-or-lt_of_le, le_of_suc-le-suc}
use native.Mathlib.Omega.{arith}
use borrow.Author.Tests.{le-leb}
use lib.ListN.{get_or}
use Rattle.walks.specs.declared.Ride.{Ride}
use Rattle.walks.specs.Walks.{Kept, struck, walk_up, walk_down, fits_at, nobody, from_start, to_end, Legs}
use Rattle.walks.proofs.WalkLaws.{kept-none, kept-join, kept-leg}

-- where the fullest leg has room, each has
pub roomy : {l h : List ℕ} {r : Ride} → Legs l h r → r.highest + r.load ≤ r.capacity → (i : ℕ) → i < r.legs → fits_at h r i ≡ true
roomy {h = h} {r} g a i b = le-leb (get_or h i 0 + r.load) r.capacity (omega (arith, g.loads i b))

-- ---- forward; f says that a leg has room, m that a ride may begin on it, b that one is on before the first

-- the legs before the i-th are done: `on` is the flag behind them, and w is what they leave of the word
pub record Forth (l : List ℕ) (f m : ℕ → Bool) (b : Bool) (word i w : ℕ) (on : Bool) : Type 0 where
  pub flag : on ≡ walk_up f m b i
  pub kept : Kept l 0 i (λ k. walk_up f m b (k + 1)) word w

module _ (f m : ℕ → Bool) (b : Bool) where
  -- a ride that is on, with room on every leg, stays on
  up-on : (n i : ℕ) → ((k : ℕ) → k < n → f k ≡ true) → walk_up f m b i ≡ true → (k : ℕ) → i ≤ k → k ≤ n → walk_up f m b k ≡ true
  unfolding walk_up
  up-on n i fit e zero a c = let z : i ≡ 0 = omega arith in subst (λ (j : ℕ). walk_up f m b j ≡ true) z e
  up-on n i fit e (suc k) a c =
      ⊎_elim (λ z. subst (λ (j : ℕ). walk_up f m b j ≡ true) z e)
      (λ z. rw (fit k c, up-on n i fit e k (le_of_suc-le-suc z) (omega arith)) (or-true (m k)))
      (eq-or-lt_of_le a)

module _ (l : List ℕ) (f m : ℕ → Bool) (b : Bool) {word : ℕ} where
  pub forth-begin : Forth l f m b word 0 word b
  unfolding walk_up
  forth-begin = record { flag = refl; kept = kept-none l 0 0 _ word (omega arith) }

  pub forth-next : {i w v : ℕ} {on now : Bool} → Forth l f m b word i w on → now ≡ (f i && (m i || on)) → v ≡ struck w (get_or l i 0) now
      → Forth l f m b word (i + 1) v now
  unfolding walk_up
  forth-next {i} {w} {v} {on} {now} p e s =
      let z : now ≡ walk_up f m b (i + 1) = e ∙ ap (λ (t : Bool). f i && (m i || t)) p.flag ∙ rw (add-one i) refl in record {
        flag = z;
        kept = rw (s, z) (kept-join p.kept (kept-leg l _ i) (omega arith) (omega arith) (omega arith) (omega arith));
      }

-- ---- backward: b says that one is on behind the last of n legs

-- the legs from the i-th on are done: `on` is the flag before them, and w is what they leave of the word
pub record Back (l : List ℕ) (f m : ℕ → Bool) (b : Bool) (n word i w : ℕ) (on : Bool) : Type 0 where
  pub flag : on ≡ walk_down f m b i (n - i)
  pub kept : Kept l i n (λ k. walk_down f m b k (n - k)) word w

module _ (f m : ℕ → Bool) (b : Bool) (n : ℕ) where
  down-next : (i : ℕ) → i < n → walk_down f m b i (n - i) ≡ (f i && (m i || walk_down f m b (suc i) (n - suc i)))
  unfolding walk_down
  down-next i a = let e : n - i ≡ suc (n - suc i) = omega arith in rw e refl

  down-on : ((k : ℕ) → k < n → f k ≡ true) → (j k : ℕ) → j + k ≤ n → walk_down f m b (j + k) (n - (j + k)) ≡ true → walk_down f m b k (n - k) ≡ true
  down-on fit zero k a e = let z : 0 + k ≡ k = omega arith in rw z at e
  down-on fit (suc j) k a e =
      let z : suc j + k ≡ j + suc k = omega arith in
      down-next k (omega arith) ∙ rw (fit k (omega arith), down-on fit j (suc k) (omega arith) (rw z at e)) (or-true (m k))

module _ (l : List ℕ) (f m : ℕ → Bool) (b : Bool) (n : ℕ) {word : ℕ} where
  pub back-begin : Back l f m b n word n word b
  unfolding walk_down
  back-begin = record { flag = let e : n - n ≡ 0 = omega arith in rw e refl; kept = kept-none l n n _ word (omega arith) }

  -- j is the leg before those that are done
  pub back-next : {i j w v : ℕ} {on now : Bool} → Back l f m b n word i w on → i ≡ suc j → j < n → now ≡ (f j && (m j || on)) → v ≡ struck w (get_or l j 0) now
      → Back l f m b n word j v now
  back-next {j = j} {now = now} p o a e s =
      let q = rw o at p in
      let z : now ≡ walk_down f m b j (n - j) = e ∙ ap (λ (t : Bool). f j && (m j || t)) q.flag ∙ sym (down-next f m b n j a) in record {
        flag = z;
        kept = rw (s, z) (kept-join q.kept (kept-leg l _ j) (omega arith) (omega arith) (omega arith) (omega arith));
      }

-- ---- where the fullest leg has room, a ride from the start is on every leg, and one to the end

module _ {l h : List ℕ} {r : Ride} (g : Legs l h r) (a : r.highest + r.load ≤ r.capacity) where
  pub start-roomy : (i : ℕ) → i < r.legs → from_start h r i ≡ true
  unfolding from_start walk_up
  start-roomy i b = up-on (fits_at h r) nobody true r.legs 0 (roomy g a) refl (i + 1) (omega arith) (omega arith)

  pub end-roomy : (i : ℕ) → i < r.legs → to_end h r i ≡ true
  unfolding to_end walk_down
  end-roomy i b = let z : r.legs - i + i ≡ r.legs = omega arith in let e : r.legs - r.legs ≡ 0 = omega arith in
      down-on (fits_at h r) nobody true r.legs (roomy g a) (r.legs - i) i (omega arith) (rw (z, e) refl)
