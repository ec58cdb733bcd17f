-- A longer route z ∷ e over a shorter one z ∷ r, whose further stops stand in open places of the shorter one: the leg of z ∷ r in which a
-- leg of z ∷ e lies.
use mathlib.Core.Path.{◌≡◌, refl, subst, ap}
use Prim.Native.Nat.{ℕ}
use mathlib.Core.Bool.{false, not}
use mathlib.Core.List.{List, [], ◌∷◌}
use mathlib.Core.Logic.{◌⊎◌, inl, inr, ⊎_elim}
use lib.Dec.{T, T_not, eqb, eqb→eq}
use Rattle.laws.proofs.Logic.{or_l, or-e, not-or-i, not-or-l, not-or-r}
use Rattle.laws.proofs.Lists.{Sub, nil, keep, skip, sub_refl, sub_trans, mem-sub, mem-hd, mem-tl}
use Rattle.laws.specs.Basic.{mem, hd}
use Rattle.rules.specs.Leg.{leg_stops}
use Rattle.rules.specs.Plan.{Places}
use Rattle.rules.specs.Rounds.{Distinct, Within, done, stop, extra}
use Rattle.rules.proofs.Cuts.{Cut, same, move, cut-next, cut-ahead, cut-behind}
use Rattle.rules.proofs.Keeps.{stays-behind}
use Rattle.rules.proofs.Nodes.{within-sub, distinct-behind}

-- ---- a node off the route

cut_off : (x : ℕ) {A B A' B' : List ℕ} → Cut A B A' B' → T (not (mem x A)) → T (not (mem x B)) → T (not (mem x A')) × T (not (mem x B'))
cut_off x same a b = (a, b)
cut_off x (move {k = k} {A = A} {B = B} c) a b = cut_off x c (not-or-i (eqb k x) (mem x A) (not-or-l (eqb k x) (mem x B) b) a) (not-or-r (eqb k x) (mem x B) b)

-- it is on neither side of a cut
pub off-sides : (x : ℕ) {z : ℕ} {r A B : List ℕ} → T (not (mem x (z ∷ r))) → Cut (z ∷ []) r A B → T (not (mem x A)) × T (not (mem x B))
off-sides x {z} {r} h c = cut_off x c (not-or-i (eqb z x) false (not-or-l (eqb z x) (mem x r) h) tt) (not-or-r (eqb z x) (mem x r) h)

-- ---- the leg in which a leg lies

-- the leg (A', B') of the route z ∷ e lies in the leg (A, B) of the route z ∷ r
pub record Lies (z : ℕ) (e r A' B' A B : List ℕ) : Type 0 where
  pub long : Cut (z ∷ []) e A' B'
  pub short : Cut (z ∷ []) r A B
  pub behind : Sub A A'
  pub ahead : Sub B B'

cut-one : {A B A₁ B₁ A₂ B₂ A' B' : List ℕ} → Cut A B A₁ B₁ → Cut A B A₂ B₂ → ((x : ℕ) → T (mem x B') → T (not (mem x A'))) → Sub A₁ A' → Sub B₁ B'
    → Sub A₂ A' → Sub B₂ B' → (A₁ ≡ A₂) × (B₁ ≡ B₂)
cut-one same same s a₁ b₁ a₂ b₂ = (refl, refl)
cut-one (move c₁) (move c₂) s a₁ b₁ a₂ b₂ = cut-one c₁ c₂ s a₁ b₁ a₂ b₂
cut-one {A' = A'} same (move {k = k} {A = A} {B = B} c) s a₁ b₁ a₂ b₂ =
    absurd (T_not (mem k A') (s k (mem-sub k b₁ (mem-hd k B))) (mem-sub k a₂ (stays-behind k c (mem-hd k A))))
cut-one {A' = A'} (move {k = k} {A = A} {B = B} c) same s a₁ b₁ a₂ b₂ =
    absurd (T_not (mem k A') (s k (mem-sub k b₂ (mem-hd k B))) (mem-sub k a₁ (stays-behind k c (mem-hd k A))))

-- a leg lies in one leg
pub lies-one : {n z : ℕ} {e r A' B' A₁ B₁ A₂ B₂ : List ℕ} → Distinct n (z ∷ e) → Lies z e r A' B' A₁ B₁ → Lies z e r A' B' A₂ B₂ → (A₁ ≡ A₂) × (B₁ ≡ B₂)
lies-one g l m = cut-one l.short m.short (distinct-behind g l.long).1 l.behind l.ahead m.behind m.ahead

-- the same leg
pub lies_same : {z : ℕ} {r A B : List ℕ} → Cut (z ∷ []) r A B → Lies z r r A B A B
lies_same {A = A} {B = B} c = record { long = c; short = c; behind = sub_refl A; ahead = sub_refl B }

pub lies-trans : {z : ℕ} {e r r₀ A'' B'' A' B' A B : List ℕ} → Lies z e r A'' B'' A' B' → Lies z r r₀ A' B' A B → Lies z e r₀ A'' B'' A B
lies-trans l m = record { long = l.long; short = m.short; behind = sub_trans m.behind l.behind; ahead = sub_trans m.ahead l.ahead }

-- its two stops are on the route
pub entered_on : {z k : ℕ} {r A B : List ℕ} → Cut (z ∷ []) r A (k ∷ B) → T (mem k (z ∷ r))
entered_on {z} {k} {r} {B = B} c = mem-tl k z r (cut-ahead k c (mem-hd k B))

pub left-on : {z p : ℕ} {r A B : List ℕ} → Cut (z ∷ []) r (p ∷ A) B → T (mem p (z ∷ r))
left-on {z} {p} {r} {A} c = ⊎_elim (λ m. ⊎_elim (or_l (eqb z p) (mem p r)) (λ n. absurd n) (or-e (eqb z p) false m)) (mem-tl p z r) (cut-behind p c (mem-hd p A))

-- the leg of a name
pub leg-named : (q c : ℕ) (A B : List ℕ) → T (mem q (leg_stops (c ∷ B))) → (A' : List ℕ) × (k' : ℕ) × (B' : List ℕ) × Cut (c ∷ A) B (q ∷ A') (k' ∷ B')
leg-named q c A [] h = absurd h
leg-named q c A (k ∷ B) h =
    ⊎_elim (λ e. (A, k, B, subst (λ (m : ℕ). Cut (c ∷ A) (k ∷ B) (m ∷ A) (k ∷ B)) (eqb→eq c q e) same))
    (λ m. let u = leg-named q k (c ∷ A) B m in (u.0, u.1, u.2, move u.3)) (or-e (eqb c q) (mem q (leg_stops (k ∷ B))) h)

pub leg-mem : (q c : ℕ) (B : List ℕ) → T (mem q (leg_stops (c ∷ B))) → T (mem q (c ∷ B))
leg-mem q c B h = left-on (leg-named q c [] B h).3

-- ---- the stops in between

-- each leg of the route z ∷ e: where a node has a place of W, it has one of o in the leg of z ∷ r in which it lies
abbrev pub Comes : ℕ → List ℕ → List ℕ → Places → Places → Type 0
Comes z e r W o = (q k' p k : ℕ) (A' B' A B : List ℕ) → Lies z e r (q ∷ A') (k' ∷ B') (p ∷ A) (k ∷ B) → (y : ℕ) → T (W y q) → T (o y p)

-- a route has its own stops only
pub within-self : (o : Places) (p : ℕ) (l : List ℕ) → Within o p l l
within-self o p [] = done
within-self o p (k ∷ l) = stop (within-self o k l)

-- the stops A' behind run through the stops A; each other one has an open place at the stop before it of the shorter route
pub data Past (o : Places) (z : ℕ) : List ℕ → List ℕ → Type 0 where
  begun : Past o z (z ∷ []) (z ∷ [])
  halt : {k p q : ℕ} {A A' : List ℕ} → Past o z (p ∷ A) (q ∷ A') → Past o z (k ∷ p ∷ A) (k ∷ q ∷ A')
  between : {y p q : ℕ} {A A' : List ℕ} → T (o y p) → Past o z (p ∷ A) (q ∷ A') → Past o z (p ∷ A) (y ∷ q ∷ A')

pub past-sub : {o : Places} {z : ℕ} {A A' : List ℕ} → Past o z A A' → Sub A A'
past-sub begun = keep nil
past-sub (halt u) = keep (past-sub u)
past-sub (between t u) = skip (past-sub u)

-- the leg enters the stop that the leg of the shorter route enters, or one in between; it leaves the same stop, or one in between
pub enters : {o : Places} {p k k' : ℕ} {B B' : List ℕ} → Within o p (k ∷ B) (k' ∷ B') → (k' ≡ k) ⊎ T (o k' p)
enters (stop w) = inl refl
enters (extra t w) = inr t

pub leaves : {o : Places} {z p q : ℕ} {A A' : List ℕ} → Past o z (p ∷ A) (q ∷ A') → (q ≡ p) ⊎ T (o q p)
leaves begun = inl refl
leaves (halt u) = inl refl
leaves (between t u) = inr t

-- what stands behind and ahead of the leg (A', k' ∷ B') of the longer route, and the leg of the shorter one in which it lies
record Stands (o : Places) (z : ℕ) (r A' : List ℕ) (k' : ℕ) (B' : List ℕ) : Type 0 where
  p : ℕ
  A : List ℕ
  k : ℕ
  B : List ℕ
  cut : Cut (z ∷ []) r (p ∷ A) (k ∷ B)
  past : Past o z (p ∷ A) A'
  rest : Within o p (k ∷ B) (k' ∷ B')

stands : {o : Places} {z p q k' : ℕ} {r A B A₀ B₀ A' B' : List ℕ} → Cut (q ∷ A₀) B₀ A' (k' ∷ B') → Within o p B B₀ → Cut (z ∷ []) r (p ∷ A) B
    → Past o z (p ∷ A) (q ∷ A₀) → Stands o z r A' k' B'
stands same (stop w) c u = record { p = _; A = _; k = _; B = _; cut = c; past = u; rest = stop w }
stands same (extra t w) c u = record { p = _; A = _; k = _; B = _; cut = c; past = u; rest = extra t w }
stands (move d) (stop w) c u = stands d w (cut-next c) (halt u)
stands (move d) (extra t w) c u = stands d w c (between t u)

-- every leg of the longer route lies in one of the shorter
pub record Ancestor (z : ℕ) (e r A' : List ℕ) (k' : ℕ) (B' : List ℕ) : Type 0 where
  pub p : ℕ
  pub A : List ℕ
  pub k : ℕ
  pub B : List ℕ
  pub lies : Lies z e r A' (k' ∷ B') (p ∷ A) (k ∷ B)

pub ancestor : {o : Places} {z k' : ℕ} {e r A' B' : List ℕ} → Within o z r e → Cut (z ∷ []) e A' (k' ∷ B') → Ancestor z e r A' k' B'
ancestor w c = let s = stands c w same begun in
    record { p = s.p; A = s.A; k = s.k; B = s.B; lies = record { long = c; short = s.cut; behind = past-sub s.past; ahead = within-sub s.rest } }

-- the stops in between, behind and ahead of a leg that lies in another
pub follow : {n z p k k' : ℕ} {o : Places} {e r A' B' A B : List ℕ} → Distinct n (z ∷ e) → Within o z r e → Lies z e r A' (k' ∷ B') (p ∷ A) (k ∷ B)
    → Past o z (p ∷ A) A' × Within o p (k ∷ B) (k' ∷ B')
follow {z = z} {p = p} {k = k} {k' = k'} {o = o} {A' = A'} {B' = B'} {B = B} g w l =
    let s = stands l.long w same begun in
    let q = cut-one s.cut l.short (distinct-behind g l.long).1 (past-sub s.past) (within-sub s.rest) l.behind l.ahead in (
      subst (λ (m : List ℕ). Past o z m A') q.0 s.past,
      subst (λ (m : ℕ). Within o m (k ∷ B) (k' ∷ B')) (ap hd q.0) (subst (λ (m : List ℕ). Within o s.p m (k' ∷ B')) q.1 s.rest),
    )
