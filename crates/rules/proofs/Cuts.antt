-- A leg of the route z ∷ r is a cut (A, B) of it, at or after the first cut (z ∷ [], r). Which leg a stop names, and what every leg of a
-- route passes.
use mathlib.Core.Path.{◌≡◌, refl, subst, ◌∙◌, ap}
use Prim.Native.Nat.{ℕ}
use mathlib.Core.Bool.{Bool, true, false, cond}
use mathlib.Core.List.{List, [], ◌∷◌, head-eq_of_cons-eq, tail-eq_of_cons-eq, nil≢cons}
use mathlib.Core.Logic.{◌⊎◌, inl, inr, ⊎_elim}
use lib.Dec.{T, eqb, eqb→eq, eqb_refl}
use Rattle.laws.proofs.Logic.{and_i, and_l, and_r, or_l, or-e, T→true, N→false}
use Rattle.laws.proofs.Lists.{mem-hd, mem-tl, mem-ne}
use Rattle.laws.specs.Basic.{mem, hd}
use Rattle.rules.specs.Leg.{OfLeg, legs_ahead, legs_behind, leg_from}
use Rattle.rules.specs.Rounds.{Distinct, more}

-- (A', B') is a cut at or after the cut (A, B)
pub data Cut : List ℕ → List ℕ → List ℕ → List ℕ → Type 0 where
  same : {A B : List ℕ} → Cut A B A B
  move : {k : ℕ} {A B A' B' : List ℕ} → Cut (k ∷ A) B A' B' → Cut A (k ∷ B) A' B'

-- ---- cuts of one route

pub cut-trans : {A B A' B' A'' B'' : List ℕ} → Cut A B A' B' → Cut A' B' A'' B'' → Cut A B A'' B''
cut-trans same d = d
cut-trans (move c) d = move (cut-trans c d)

-- the next cut
pub cut-next : {A B A' B' : List ℕ} {k : ℕ} → Cut A B A' (k ∷ B') → Cut A B (k ∷ A') B'
cut-next c = cut-trans c (move same)

pub cut-nil : {z : ℕ} {A B B' : List ℕ} → Cut (z ∷ A) B [] B' → ⊥
cut-nil (move c) = cut-nil c

-- the cut before, if there is one
cut-back : {A B A' B' : List ℕ} {p : ℕ} → Cut A B (p ∷ A') B' → Cut A B A' (p ∷ B') ⊎ ((A ≡ p ∷ A') × (B ≡ B'))
cut-back same = inr (refl, refl)
cut-back {A' = A'} {B' = B'} {p = p} (move {k = k} {A = A} {B = B} c) = inl (go (cut-back c))
  where
    go : Cut (k ∷ A) B A' (p ∷ B') ⊎ ((k ∷ A ≡ p ∷ A') × (B ≡ B')) → Cut A (k ∷ B) A' (p ∷ B')
    go (inl d) = move d
    go (inr e) =
        let a : A ≡ A' = tail-eq_of_cons-eq e.0 in
        let k≡p : k ≡ p = head-eq_of_cons-eq e.0 in
        let b : k ∷ B ≡ p ∷ B' = λ i. k≡p i ∷ e.1 i in
        subst (λ (l : List ℕ). Cut A (k ∷ B) l (p ∷ B')) a (subst (λ (l : List ℕ). Cut A (k ∷ B) A l) b same)

pub cut-pred : {z p q : ℕ} {r A B : List ℕ} → Cut (z ∷ []) r (p ∷ q ∷ A) B → Cut (z ∷ []) r (q ∷ A) (p ∷ B)
cut-pred c = ⊎_elim (λ d. d) (λ e. absurd (nil≢cons (tail-eq_of_cons-eq e.0))) (cut-back c)

-- who is behind or ahead of a cut, was behind or ahead of an earlier one
pub cut-ahead : (x : ℕ) {A B A' B' : List ℕ} → Cut A B A' B' → T (mem x B') → T (mem x B)
cut-ahead x same m = m
cut-ahead x (move {k = k} {B = B} c) m = mem-tl x k B (cut-ahead x c m)

pub cut-behind : (x : ℕ) {A B A' B' : List ℕ} → Cut A B A' B' → T (mem x A') → T (mem x A) ⊎ T (mem x B)
cut-behind x same m = inl m
cut-behind x (move {k = k} {A = A} {B = B} c) m =
    ⊎_elim (λ u. ⊎_elim (λ e. inr (or_l (eqb k x) (mem x B) e)) inl (or-e (eqb k x) (mem x A) u)) (λ u. inr (mem-tl x k B u)) (cut-behind x c m)

pub cut-mem : (x : ℕ) {A B A' B' : List ℕ} → Cut A B A' B' → T (mem x A) ⊎ T (mem x B) → T (mem x A') ⊎ T (mem x B')
cut-mem x same m = m
cut-mem x {A = A} (move {k = k} {B = B} c) m =
    cut-mem x c (⊎_elim (λ u. inl (mem-tl x k A u)) (λ u. ⊎_elim (λ e. inl (or_l (eqb k x) (mem x A) e)) inr (or-e (eqb k x) (mem x B) u)) m)

-- ---- the leg that a stop names

pub cut-name : {A B A' B' : List ℕ} {k : ℕ} → Cut (k ∷ A) B A' B' → T (mem (hd A') (k ∷ B))
cut-name {B = B} {k = k} same = mem-hd k B
cut-name {A' = A'} {k = k} (move {k = m} {B = B} c) = mem-tl (hd A') k (m ∷ B) (cut-name c)

-- on distinct stops, the leg that leaves `hd A'` is (A', k' ∷ B')
pub leg-cut : {n : ℕ} (f : OfLeg) {A B A' B' : List ℕ} {k' : ℕ} → Cut A B A' (k' ∷ B') → Distinct n (hd A ∷ B) → leg_from f (hd A') A B ≡ f A' (k' ∷ B')
leg-cut f {A = A} {B' = B'} {k' = k'} same g =
    ap (λ (c : Bool). cond c (f A (k' ∷ B')) (leg_from f (hd A) (k' ∷ A) B')) (T→true (eqb (hd A) (hd A)) (eqb_refl (hd A)))
leg-cut f {A = A} {A' = A'} (move {k = k} {B = B} c) (more a b g) =
    ap (λ (t : Bool). cond t (f A (k ∷ B)) (leg_from f (hd A') (k ∷ A) B)) (N→false (eqb (hd A) (hd A')) (mem-ne (hd A) (hd A') (k ∷ B) b (cut-name c)))
    ∙ leg-cut f c g

-- the leg that p names, and f on it
pub record LegFound (f : OfLeg) (p : ℕ) (A B : List ℕ) : Type 0 where
  pub A' : List ℕ
  pub B' : List ℕ
  pub k' : ℕ
  pub cut : Cut A B A' (k' ∷ B')
  pub name : hd A' ≡ p
  pub holds : T (f A' (k' ∷ B'))

pub leg-found : (f : OfLeg) (p : ℕ) (A B : List ℕ) → T (leg_from f p A B) → LegFound f p A B
leg-found f p A [] h = absurd h
leg-found f p A (k ∷ B) h = go (eqb (hd A) p) (eqb→eq (hd A) p) h (leg-found f p (k ∷ A) B)
  where
    go : (c : Bool) → (T c → hd A ≡ p) → T (cond c (f A (k ∷ B)) (leg_from f p (k ∷ A) B)) → (T (leg_from f p (k ∷ A) B) → LegFound f p (k ∷ A) B) → LegFound f p A (k ∷ B)
    go true e t r = record { A' = A; B' = B; k' = k; cut = same; name = e tt; holds = t }
    go false e t r = let u = r t in record { A' = u.A'; B' = u.B'; k' = u.k'; cut = move u.cut; name = u.name; holds = u.holds }

-- ---- what every leg passes, the legs ahead of a cut pass, and those behind it

pub legs-ahead : (f : OfLeg) {A B A' B' : List ℕ} → Cut A B A' B' → T (legs_ahead f A B) → T (legs_ahead f A' B')
legs-ahead f same h = h
legs-ahead f {A = A} (move {k = k} {B = B} c) h = legs-ahead f c (and_r (f A (k ∷ B)) (legs_ahead f (k ∷ A) B) h)

legs-behind-from : (f : OfLeg) {p : ℕ} {A B A' B' : List ℕ} {k : ℕ} → Cut (p ∷ A) B A' (k ∷ B') → T (legs_ahead f (p ∷ A) B) → T (legs_behind f A (p ∷ B))
    → T (legs_behind f A' (k ∷ B'))
legs-behind-from f {p} {A} {B' = B'} {k = k} same h g =
    and_i (f (p ∷ A) (k ∷ B')) (legs_behind f A (p ∷ k ∷ B')) (and_l (f (p ∷ A) (k ∷ B')) (legs_ahead f (k ∷ p ∷ A) B') h) g
legs-behind-from f {p} {A} (move {k = k} {B = B} c) h g =
    legs-behind-from f c (and_r (f (p ∷ A) (k ∷ B)) (legs_ahead f (k ∷ p ∷ A) B) h)
    (and_i (f (p ∷ A) (k ∷ B)) (legs_behind f A (p ∷ k ∷ B)) (and_l (f (p ∷ A) (k ∷ B)) (legs_ahead f (k ∷ p ∷ A) B) h) g)

pub legs-behind : (f : OfLeg) {z : ℕ} {r A B : List ℕ} {k : ℕ} → Cut (z ∷ []) r A (k ∷ B) → T (legs_ahead f (z ∷ []) r) → T (legs_behind f A (k ∷ B))
legs-behind f c h = legs-behind-from f c h tt
