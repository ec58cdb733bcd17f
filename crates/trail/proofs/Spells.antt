-- A stretch of the trail that spells small steps: undone, it gives the board before them.
use mathlib.Core.Path.{◌≡◌, refl, sym, subst}
use mathlib.Core.Bool.{true}
use mathlib.Core.List.{List}
use Prim.Native.Nat.{ℕ, zero, suc, ◌+◌, ◌-◌, ◌*◌, ◌<◌}
use native.Mathlib.Omega.{arith}
use lib.ListN.{get_or}
use Rattle.board.specs.Board.{Board}
use Rattle.board.specs.Held.{Words, Sound}
use Rattle.records.specs.Trail.{first_of, second_of}
use Rattle.records.specs.Undo.{undo_many}
use Rattle.trail.proofs.Small.{Small, small-sound, small-undo, small-words}

-- from b at k records: m records of the trail spell small steps to the board
pub data Spells (n : ℕ) (t : List ℕ) (b : Board) (k : ℕ) : ℕ → Board → Type 0 where
  none : Spells n t b k zero b
  more : {m : ℕ} {c d : Board} → Spells n t b k m c → Small n c (first_of t (k + m)) (second_of t (k + m)) d → Spells n t b k (suc m) d

pub spells-sound : {n : ℕ} {t : List ℕ} {b : Board} {k m : ℕ} {c : Board} → Sound n b → Spells n t b k m c → Sound n c
spells-sound s none = s
spells-sound s (more p q) = small-sound (spells-sound s p) q

pub spells-words : {n : ℕ} {t : List ℕ} {b : Board} {k m : ℕ} {c : Board} → Sound n b → Words b → Spells n t b k m c → Words c
spells-words s w none = w
spells-words s w (more p q) = small-words (spells-sound s p) (spells-words s w p) q

-- the words above the stretch do not matter
pub spells-agree : {n : ℕ} {t u : List ℕ} {b : Board} {k m : ℕ} {c : Board} → ((i : ℕ) → i < 2 * (k + m) → get_or u i 0 ≡ get_or t i 0)
    → Spells n t b k m c → Spells n u b k m c
unfolding first_of second_of
spells-agree h none = none
spells-agree {n = n} {t = t} {u = u} {k = k} h (more {m = m} {c = c} {d = d} p q) =
    more (spells-agree (λ i l. h i (omega arith)) p)
    (subst (λ (a : ℕ). Small n c a (get_or u (2 * (k + m) + 1) 0) d) (sym (h (2 * (k + m)) (omega arith)))
    (subst (λ (w : ℕ). Small n c (get_or t (2 * (k + m)) 0) w d) (sym (h (2 * (k + m) + 1) (omega arith))) q))

-- the j newest records undone give the board after the others
pub spells-undo : {n : ℕ} {t : List ℕ} {b : Board} {k m : ℕ} {c : Board} → Sound n b → Spells n t b k m c → (j i : ℕ) → j + i ≡ m
    → (d : Board) × Spells n t b k i d × (undo_many j n c (k + m) t ≡ (true, d))
unfolding undo_many
spells-undo {n = n} {t = t} {b = b} {k = k} {m = m} {c = c} s p zero i e =
    let z : m ≡ i = omega arith in
    (c, subst (λ (l : ℕ). Spells n t b k l c) z p, refl)
spells-undo s none (suc j) i e = absurd (omega arith)
spells-undo {n = n} {t = t} {k = k} s (more {m = m} {c = c} {d = d} p q) (suc j) i e =
    let r = spells-undo s p j i (omega arith) in
    let z : k + suc m - 1 ≡ k + m = omega arith in
    (r.0, r.1, rw (z, small-undo (spells-sound s p) q) r.2)

-- no record: the same board
pub spells_nothing : {n : ℕ} {t : List ℕ} {b : Board} {k m : ℕ} {c : Board} → Spells n t b k m c → m ≡ 0 → c ≡ b
spells_nothing none e = refl
spells_nothing (more p q) e = absurd (omega arith)
