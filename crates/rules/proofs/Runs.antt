-- A run in small steps, a settling as its single rounds, and where its places come from.
use mathlib.Core.Path.{◌≡◌, subst, sym, ap, ◌∙◌}
use Prim.Native.Nat.{ℕ, zero, suc, ◌*◌, ◌<◌}
use mathlib.Core.Bool.{Bool, true, false, not, ◌&&◌}
use mathlib.Core.List.{List, [], ◌∷◌}
use mathlib.Core.Logic.{◌⊎◌, inl, inr, ⊎_elim}
use lib.Dec.{T, eqb, eqb→eq, eqb_refl}
use Rattle.laws.proofs.Logic.{tf, and_i, and_l, and_r, not-or-i, not-or-l, not-or-r, ne-sym}
use Rattle.laws.proofs.Lists.{mem-sub, mem-tl, mem-ne}
use Rattle.laws.specs.Basic.{mem, hd}
use Rattle.rules.specs.Day.{Day}
use Rattle.rules.specs.declared.Van.{Van}
use Rattle.rules.specs.Plan.{Plan, Places}
use Rattle.rules.specs.Rounds.{Distinct, Within, stop, extra}
use Rattle.rules.specs.Steps.{put_after, split}
use Rattle.rules.specs.Settle.{round, strikes, settle_in, settle}
use Rattle.rules.specs.Asked.{Triangle}
use Rattle.rules.specs.Worked.{PlanRun, begin, place, exclude, require, settling}
use Rattle.rules.proofs.Left.{◌⊆◌, round-less, round-stays, round-i}
use Rattle.rules.proofs.Placing.{Ins, at, on, put-ins, split-e, split-i, split-half, split-half-i}
use Rattle.rules.proofs.StepRounds.{place-old}
use Rattle.rules.proofs.Longer.{Lies, lies-one, lies_same, lies-trans, left-on, Comes, within-self, ancestor, leaves, follow}
use Rattle.rules.proofs.Monotone.{Over, stays-grows}
use Rattle.rules.proofs.Forms.{LaidOut, laid-fewer, laid-placed, ins-new}
use Rattle.rules.proofs.Nodes.{within-sub}
use Rattle.rules.proofs.Using.{within_more}

-- ---- small steps

-- from the route z ∷ r₀ with the places o₀: what route and places are after a run, and X, the nodes excluded on the way
pub data Course (v : Van) (d : Day) (z : ℕ) (r₀ : List ℕ) (o₀ : Places) : List ℕ → Places → List ℕ → Type 0 where
  outset : Course v d z r₀ o₀ r₀ o₀ []
  put : {p x : ℕ} {r r' X : List ℕ} {o : Places} → Course v d z r₀ o₀ r o X → T (o x p) → Ins p x z r r' → Course v d z r₀ o₀ r' (split p x o) X
  shut : {r X : List ℕ} {o : Places} (x : ℕ) → Course v d z r₀ o₀ r o X → Course v d z r₀ o₀ r (λ y q. o y q && not (eqb y x)) (x ∷ X)
  strike : {r X : List ℕ} {o : Places} → Course v d z r₀ o₀ r o X → Course v d z r₀ o₀ r (round v d (z ∷ r) o) X

module _ {v : Van} {d : Day} {z : ℕ} {r₀ : List ℕ} {o₀ : Places} where
  pub course-laid : {r X : List ℕ} {o : Places} → LaidOut d z r₀ o₀ → Course v d z r₀ o₀ r o X → LaidOut d z r o
  course-laid l outset = l
  course-laid l (put c t i) = laid-placed i t (course-laid l c)
  course-laid l (shut {o = o} x c) = laid-fewer (λ y q. and_l (o y q) (not (eqb y x))) (course-laid l c)
  course-laid l (strike {r = r} {o = o} c) = laid-fewer (round-less v d (z ∷ r) o) (course-laid l c)

  course-settle : (f : ℕ) {r X : List ℕ} {o : Places} → Course v d z r₀ o₀ r o X → Course v d z r₀ o₀ r (settle_in f v d (z ∷ r) o) X
  unfolding settle_in
  course-settle zero c = c
  course-settle (suc f) {r} {X} {o} c = go (strikes v d (z ∷ r) o) (course-settle f (strike c))
    where
      go : (b : Bool) → Course v d z r₀ o₀ r (settle_in f v d (z ∷ r) (round v d (z ∷ r) o)) X
          → Course v d z r₀ o₀ r (elim b as (λ e. Places) [ true ↦ settle_in f v d (z ∷ r) (round v d (z ∷ r) o) | false ↦ o ]) X
      go true u = u
      go false u = c

-- a run from the plan with route z ∷ r₀ is a course
pub record Coursed (v : Van) (d : Day) (z : ℕ) (r₀ : List ℕ) (o₀ : Places) (b : Plan) (X : List ℕ) : Type 0 where
  pub rest : List ℕ
  pub is : b.route ≡ z ∷ rest
  pub course : Course v d z r₀ o₀ rest b.places X

pub coursed : {v : Van} {d : Day} {z : ℕ} {r₀ : List ℕ} {a b : Plan} {X : List ℕ} → a.route ≡ z ∷ r₀ → LaidOut d z r₀ a.places → PlanRun v d a b X
    → Coursed v d z r₀ a.places b X
coursed {r₀ = r₀} e l begin = record { rest = r₀; is = e; course = outset }
coursed e l (place p x run off open') =
    let u = coursed e l run in
    let w = put-ins p x _ u.rest ((course-laid l u.course).leg x p open') in
    record { rest = w.rest; is = ap (put_after p x) u.is ∙ w.is; course = put u.course open' w.ins }
coursed e l (exclude x run) = let u = coursed e l run in record { rest = u.rest; is = u.is; course = shut x u.course }
coursed e l (require x run) = let u = coursed e l run in record { rest = u.rest; is = u.is; course = u.course }
coursed {v} {d} {z} {r₀} {a = a} e l (settling {b = b} {X = X} run) = let u = coursed e l run in
    record {
      rest = u.rest;
      is = u.is;
      course = subst (λ (rt : List ℕ). Course v d z r₀ a.places u.rest (settle v d rt b.places) X) (sym u.is) (course-settle (d.n * d.n) u.course);
    }

-- ---- the legs of a placing

-- the place p of x
abbrev only : ℕ → ℕ → Places
only p x y q = eqb y x && eqb q p

ins-within : {p x c : ℕ} {r r' : List ℕ} → Ins p x c r r' → Within (only p x) c r r'
ins-within {p} {x} (at {k = k} {r = r}) = extra (and_i (eqb x x) (eqb p p) (eqb_refl x) (eqb_refl p)) (within-self (only p x) p (k ∷ r))
ins-within (on i) = stop (ins-within i)

module _ {n p x z q k' p₀ k : ℕ} {r r' A' B' A B : List ℕ} (o : Places) (y : ℕ) (i : Ins p x z r r') (g : Distinct n (z ∷ r')) (off : T (not (mem x (z ∷ r))))
    (l : Lies z r' r (q ∷ A') (k' ∷ B') (p₀ ∷ A) (k ∷ B)) where
  -- it has the name of the leg in which it lies, or it is the half that x names
  named : (q ≡ p₀) ⊎ ((q ≡ x) × (p₀ ≡ p))
  named = ⊎_elim inl (λ t. inr (eqb→eq q x (and_l (eqb q x) (eqb p₀ p) t), eqb→eq p₀ p (and_r (eqb q x) (eqb p₀ p) t))) (leaves (follow g (ins-within i) l).0)

  old-name : T (not (eqb p₀ x))
  old-name = ne-sym x p₀ (mem-ne x p₀ (z ∷ r) off (left-on l.short))

  -- what is open in a leg of the new route was open in the leg in which it lies, and the other way round
  pub split-old : T (split p x o y q) → T (o y p₀)
  split-old h = ⊎_elim (λ e. split-e p x o y p₀ old-name (rw e at h)) (λ e. rw e.1 (split-half p x o y (rw e.0 at h))) named

  pub split-new : T (not (eqb y x)) → T (o y p₀) → T (split p x o y q)
  split-new m h = ⊎_elim (λ e. rw e (split-i p x o y p₀ m old-name h)) (λ e. rw e.0 (split-half-i p x o y m (rw e.1 at h))) named

-- ---- where the places of a run come from

module _ {v : Van} {d : Day} {z : ℕ} {r₀ : List ℕ} {o₀ : Places} (l₀ : LaidOut d z r₀ o₀) where
  -- who stands between the stops at the end had a place at the outset
  pub course-within : {r X e : List ℕ} {o : Places} → Course v d z r₀ o₀ r o X → Within o z r e → Within o₀ z r₀ e
  course-within outset w = w
  course-within (put {p = p} {x = x} {o = o} c t i) w = course-within c (place-old o p x t ((course-laid l₀ c).off x p t) i w)
  course-within (shut {o = o} x c) w = course-within c (within_more (λ y q. and_l (o y q) (not (eqb y x))) w)
  course-within (strike {r = r} {o = o} c) w = course-within c (within_more (round-less v d (z ∷ r) o) w)

  -- an open place was open at the outset
  pub course-from : {r X : List ℕ} {o : Places} → Course v d z r₀ o₀ r o X → Comes z r r₀ o o₀
  course-from outset q k' p k A' B' A B l y h = subst (λ (m : ℕ). T (o₀ y m)) (ap hd (lies-one l₀.nodes (lies_same l.long) l).0) h
  course-from (put {p = p₁} {x = x} {r = r} {r' = r'} {o = o} c t i) q k' p k A' B' A B l y h =
      let l₁ = course-laid l₀ c in
      let g = (laid-placed i t l₁).nodes in
      let a = ancestor (ins-within i) l.long in
      let b = ancestor (course-within c (within-self o z r)) a.lies.short in
      subst (λ (m : ℕ). T (o₀ y m)) (ap hd (lies-one g (lies-trans a.lies b.lies) l).0)
      (course-from c a.p a.k b.p b.k a.A a.B b.A b.B b.lies y (split-old o y i g (l₁.off x p₁ t) a.lies h))
  course-from (shut {o = o} x c) q k' p k A' B' A B l y h = course-from c q k' p k A' B' A B l y (and_l (o y q) (not (eqb y x)) h)
  course-from (strike {r = r} {o = o} c) q k' p k A' B' A B l y h = course-from c q k' p k A' B' A B l y (round-less v d (z ∷ r) o y q h)

  pub course-shut : {r X : List ℕ} {o : Places} → Course v d z r₀ o₀ r o X → (y q : ℕ) → T (o y q) → T (not (mem y X))
  course-shut outset y q h = tt
  course-shut (put {p = p} {x = x} {o = o} c t i) y q h =
      ⊎_elim (λ e. course-shut c y p (split-half p x o y (rw (eqb→eq q x e) at h))) (λ n. course-shut c y q (split-e p x o y q n h)) (tf (eqb q x))
  course-shut (shut {X = X} {o = o} x c) y q h =
      not-or-i (eqb x y) (mem y X) (ne-sym y x (and_r (o y q) (not (eqb y x)) h)) (course-shut c y q (and_l (o y q) (not (eqb y x)) h))
  course-shut (strike {r = r} {o = o} c) y q h = course-shut c y q (round-less v d (z ∷ r) o y q h)

  -- places W of a longer route z ∷ e that no round of settling strikes, and that were open at the outset, are open all along the run
  module _ (e : List ℕ) (W : Places) (tri : Triangle d) (nodes : Distinct d.n (z ∷ e)) (out : (y q : ℕ) → T (W y q) → (y < d.n) × T (not (mem y (z ∷ e))))
      (rest : W ⊆ round v d (z ∷ e) W) (from : Comes z e r₀ W o₀) where
    pub course-kept : {r X : List ℕ} {o : Places} → Course v d z r₀ o₀ r o X → Within o z r e → ((y q : ℕ) → T (W y q) → T (not (mem y X))) → Comes z e r W o
    course-kept outset w s q k' p k A' B' A B l y h = from q k' p k A' B' A B l y h
    course-kept (put {p = p₁} {x = x} {r = r} {r' = r'} {o = o} c t i) w s q k' p k A' B' A B l y h =
        let l₁ = course-laid l₀ c in
        let a = ancestor (ins-within i) l.short in
        split-new o y i (laid-placed i t l₁).nodes (l₁.off x p₁ t) a.lies
        (mem-ne y x (z ∷ e) (out y q h).1 (mem-tl x z e (mem-sub x (within-sub w) (ins-new i))))
        (course-kept c (place-old o p₁ x t (l₁.off x p₁ t) i w) s q k' a.p a.k A' B' a.A a.B (lies-trans l a.lies) y h)
    course-kept (shut {X = X} {o = o} x c) w s q k' p k A' B' A B l y h =
        and_i (o y p) (not (eqb y x))
        (course-kept c (within_more (λ y q. and_l (o y q) (not (eqb y x))) w) (λ y q t. not-or-r (eqb x y) (mem y X) (s y q t)) q k' p k A' B' A B l y h)
        (ne-sym x y (not-or-l (eqb x y) (mem y X) (s y q h)))
    course-kept (strike {r = r} {o = o} c) w s q k' p k A' B' A B l y h =
        let l₁ = course-laid l₀ c in
        let w₁ = within_more (round-less v d (z ∷ r) o) w in
        let over : Over d z r e o W = record {
          nodes = nodes;
          inside = w₁;
          off = l₁.off;
          places = λ q k' p k A' B' A B l y h. course-kept c w₁ s q k' p k A' B' A B l y h;
        } in
        round-i v d z r o y l₁.nodes l.short (course-kept c w₁ s q k' p k A' B' A B l y h)
        (stays-grows v d tri z r e o W over q k' p k A' B' A B l y (out y q h).0 (out y q h).1 (round-stays v d z e W y nodes l.long (rest y q h)))
