-- Ways: what is reached along legs with room for a load w.
use Prim.Native.Nat.{ℕ}
use mathlib.Core.Bool.{Bool, ◌||◌}
use mathlib.Core.List.{List, [], ◌∷◌}
use mathlib.Core.Logic.{◌⊎◌, inl, inr}
use lib.Dec.{T}
use Rattle.laws.proofs.Logic.{and_i, and_l, and_r, or_l, or_r, or-e}
use Rattle.laws.specs.Basic.{hd}
use Rattle.rules.specs.Day.{Day}
use Rattle.rules.specs.declared.Van.{Van}
use Rattle.rules.specs.Load.{room, reach_ahead, reach_back}
use Rattle.rules.proofs.Cuts.{Cut, same, move, cut-pred}

-- from the leg (A, B) to the leg (A', B'), both counted, w fits on every leg
pub data Way (v : Van) (d : Day) (w : ℕ) : List ℕ → List ℕ → List ℕ → List ℕ → Type 0 where
  single : {k : ℕ} {A B : List ℕ} → T (room v d w A (k ∷ B)) → Way v d w A (k ∷ B) A (k ∷ B)
  onward : {k : ℕ} {A B A' B' : List ℕ} → T (room v d w A (k ∷ B)) → Way v d w (k ∷ A) B A' B' → Way v d w A (k ∷ B) A' B'

pub way-cut : {v : Van} {d : Day} {w : ℕ} {A B A' B' : List ℕ} → Way v d w A B A' B' → Cut A B A' B'
way-cut (single r) = same
way-cut (onward r u) = move (way-cut u)

pub way-room : {v : Van} {d : Day} {w : ℕ} {A B A' B' : List ℕ} → Way v d w A B A' B' → T (room v d w A B)
way-room (single r) = r
way-room (onward r u) = r

-- a leg ahead where g holds, and the way to it
pub record Goal (v : Van) (d : Day) (g : ℕ → ℕ → Bool) (w : ℕ) (A B : List ℕ) : Type 0 where
  pub A' : List ℕ
  pub B' : List ℕ
  pub k' : ℕ
  pub way : Way v d w A B A' (k' ∷ B')
  pub holds : T (g (hd A') k')

-- a leg behind where g holds, and the way from it
pub record Source (v : Van) (d : Day) (g : ℕ → ℕ → Bool) (w : ℕ) (A B : List ℕ) : Type 0 where
  pub A' : List ℕ
  pub B' : List ℕ
  pub p' : ℕ
  pub k' : ℕ
  pub way : Way v d w (p' ∷ A') (k' ∷ B') A B
  pub holds : T (g p' k')

module _ (v : Van) (d : Day) (g : ℕ → ℕ → Bool) (w : ℕ) where
  pub reach-way : (A B : List ℕ) → T (reach_ahead v d g w A B) → Goal v d g w A B
  reach-way A [] h = absurd h
  reach-way A (k ∷ B) h =
      go (or-e (g (hd A) k) (reach_ahead v d g w (k ∷ A) B) (and_r (room v d w A (k ∷ B)) (g (hd A) k || reach_ahead v d g w (k ∷ A) B) h)) (reach-way (k ∷ A) B)
    where
      r : T (room v d w A (k ∷ B))
      r = and_l (room v d w A (k ∷ B)) (g (hd A) k || reach_ahead v d g w (k ∷ A) B) h

      go : T (g (hd A) k) ⊎ T (reach_ahead v d g w (k ∷ A) B) → (T (reach_ahead v d g w (k ∷ A) B) → Goal v d g w (k ∷ A) B) → Goal v d g w A (k ∷ B)
      go (inl e) f = record { A' = A; B' = B; k' = k; way = single r; holds = e }
      go (inr e) f = let u = f e in record { A' = u.A'; B' = u.B'; k' = u.k'; way = onward r u.way; holds = u.holds }

  pub way-reach : {A B A' B' : List ℕ} {k' : ℕ} → Way v d w A B A' (k' ∷ B') → T (g (hd A') k') → T (reach_ahead v d g w A B)
  way-reach {A = A} {B' = B'} {k' = k'} (single r) h =
      and_i (room v d w A (k' ∷ B')) (g (hd A) k' || reach_ahead v d g w (k' ∷ A) B') r (or_l (g (hd A) k') (reach_ahead v d g w (k' ∷ A) B') h)
  way-reach {A = A} (onward {k = k} {B = B} r u) h =
      and_i (room v d w A (k ∷ B)) (g (hd A) k || reach_ahead v d g w (k ∷ A) B) r (or_r (g (hd A) k) (reach_ahead v d g w (k ∷ A) B) (way-reach u h))

  -- what is reached going back from the beginning of a way is reached from its end
  pub way_back : {A B A' B' : List ℕ} → Way v d w A B A' B' → T (reach_back v d g w A B) → T (reach_back v d g w A' B')
  way_back (single r) h = h
  way_back {A = A} (onward {k = k} {B = B} r u) h =
      way_back u (and_i (room v d w (k ∷ A) B) (g k (hd B) || reach_back v d g w A (k ∷ B)) (way-room u) (or_r (g k (hd B)) (reach_back v d g w A (k ∷ B)) h))

  -- from the end of a way, a leg where g holds is reached at its beginning
  pub way-from : {p k : ℕ} {A B A' B' : List ℕ} → Way v d w (p ∷ A) (k ∷ B) A' B' → T (g p k) → T (reach_back v d g w A' B')
  way-from {p = p} {k = k} {A = A} {B = B} u h =
      way_back u (and_i (room v d w (p ∷ A) (k ∷ B)) (g p k || reach_back v d g w A (p ∷ k ∷ B)) (way-room u) (or_l (g p k) (reach_back v d g w A (p ∷ k ∷ B)) h))

  pub back-way : (A : List ℕ) (k : ℕ) (B : List ℕ) → T (reach_back v d g w A (k ∷ B)) → Source v d g w A (k ∷ B)
  back-way [] k B h = absurd h
  back-way (p ∷ A) k B h =
      go (or-e (g p k) (reach_back v d g w A (p ∷ k ∷ B)) (and_r (room v d w (p ∷ A) (k ∷ B)) (g p k || reach_back v d g w A (p ∷ k ∷ B)) h)) (back-way A p (k ∷ B))
    where
      r : T (room v d w (p ∷ A) (k ∷ B))
      r = and_l (room v d w (p ∷ A) (k ∷ B)) (g p k || reach_back v d g w A (p ∷ k ∷ B)) h

      snoc : {m j : ℕ} {A₀ B₀ A₁ B₁ : List ℕ} → Way v d w A₀ B₀ A₁ (m ∷ j ∷ B₁) → T (room v d w (m ∷ A₁) (j ∷ B₁)) → Way v d w A₀ B₀ (m ∷ A₁) (j ∷ B₁)
      snoc (single q) t = onward q (single t)
      snoc (onward q u) t = onward q (snoc u t)

      go : T (g p k) ⊎ T (reach_back v d g w A (p ∷ k ∷ B)) → (T (reach_back v d g w A (p ∷ k ∷ B)) → Source v d g w A (p ∷ k ∷ B)) → Source v d g w (p ∷ A) (k ∷ B)
      go (inl e) f = record { A' = A; B' = B; p' = p; k' = k; way = single r; holds = e }
      go (inr e) f = let u = f e in record { A' = u.A'; B' = u.B'; p' = u.p'; k' = u.k'; way = snoc u.way r; holds = u.holds }

-- a way to a leg of the route begins at a leg of the route
pub way-source : {v : Van} {d : Day} {w z p : ℕ} {r A B A' B' : List ℕ} → Way v d w (p ∷ A) B A' B' → Cut (z ∷ []) r A' B' → Cut (z ∷ []) r (p ∷ A) B
way-source (single x) c = c
way-source (onward x u) c = cut-pred (way-source u c)
