-- Placing as a relation, and what is open in the two halves of the split leg.
use mathlib.Core.Path.{◌≡◌, subst, sym, ap, ◌∙◌}
use Prim.Native.Nat.{ℕ}
use mathlib.Core.Bool.{Bool, cond, not}
use mathlib.Core.List.{List, [], ◌∷◌}
use mathlib.Core.Logic.{◌⊎◌, inl, inr, ⊎_elim}
use lib.Dec.{T, eqb, eqb→eq, eqb_refl}
use Rattle.laws.proofs.Logic.{and_i, and_l, and_r, tf, T→true, N→false, cond_yes, cond_no, cond-yes-i, cond-no-i}
use Rattle.laws.proofs.Lists.{mem-hd, mem-tl, mem-rest}
use Rattle.laws.specs.Basic.{mem}
use Rattle.rules.specs.Leg.{leg_stops}
use Rattle.rules.specs.Plan.{Places}
use Rattle.rules.specs.Steps.{put_after, split}

-- after the stop c the route goes on with r; with x placed after p it goes on with r'
pub data Ins (p x : ℕ) : ℕ → List ℕ → List ℕ → Type 0 where
  at : {k : ℕ} {r : List ℕ} → Ins p x p (k ∷ r) (x ∷ k ∷ r)
  on : {c k : ℕ} {r r' : List ℕ} → Ins p x k r r' → Ins p x c (k ∷ r) (k ∷ r')

-- the route with x after p, as the step makes it
pub record PutIn (p x c : ℕ) (r : List ℕ) : Type 0 where
  pub rest : List ℕ
  pub is : put_after p x (c ∷ r) ≡ c ∷ rest
  pub ins : Ins p x c r rest

pub put-ins : (p x c : ℕ) (r : List ℕ) → T (mem p (leg_stops (c ∷ r))) → PutIn p x c r
put-ins p x c [] h = absurd h
put-ins p x c (k ∷ r) h = go (tf (eqb c p)) (put-ins p x k r)
  where
    go : T (eqb c p) ⊎ T (not (eqb c p)) → (T (mem p (leg_stops (k ∷ r))) → PutIn p x k r) → PutIn p x c (k ∷ r)
    go (inl e) f = record {
      rest = x ∷ k ∷ r;
      is = ap (λ (b : Bool). cond b (c ∷ x ∷ k ∷ r) (c ∷ put_after p x (k ∷ r))) (T→true (eqb c p) e);
      ins = subst (λ (m : ℕ). Ins p x m (k ∷ r) (x ∷ k ∷ r)) (sym (eqb→eq c p e)) at;
    }
    go (inr n) f =
        let u = f (mem-rest p c (leg_stops (k ∷ r)) n h) in
        record {
          rest = k ∷ u.rest;
          is = ap (λ (b : Bool). cond b (c ∷ x ∷ k ∷ r) (c ∷ put_after p x (k ∷ r))) (N→false (eqb c p) n) ∙ ap (λ (l : List ℕ). c ∷ l) u.is;
          ins = on u.ins;
        }

-- the stop that x is placed after is one of the route
pub ins-mem : {p x c : ℕ} {r r' : List ℕ} → Ins p x c r r' → T (mem p (c ∷ r))
ins-mem {p} (at {k = k} {r = r}) = mem-hd p (k ∷ r)
ins-mem {p} {c = c} (on {k = k} {r = r} i) = mem-tl p c (k ∷ r) (ins-mem i)

-- ---- what is open after a placing

module _ (p x : ℕ) (o : Places) where
  pub split-ne : (y q : ℕ) → T (split p x o y q) → T (not (eqb y x))
  split-ne y q h = and_l (not (eqb y x)) (cond (eqb q x) (o y p) (o y q)) h

  -- in a leg that x does not leave: as before
  pub split-e : (y q : ℕ) → T (not (eqb q x)) → T (split p x o y q) → T (o y q)
  split-e y q n h = cond_no (eqb q x) (o y p) (o y q) n (and_r (not (eqb y x)) (cond (eqb q x) (o y p) (o y q)) h)

  pub split-i : (y q : ℕ) → T (not (eqb y x)) → T (not (eqb q x)) → T (o y q) → T (split p x o y q)
  split-i y q m n h = and_i (not (eqb y x)) (cond (eqb q x) (o y p) (o y q)) m (cond-no-i (eqb q x) (o y p) (o y q) n h)

  -- in the leg that x leaves: as it was in p's
  pub split-half : (y : ℕ) → T (split p x o y x) → T (o y p)
  split-half y h = cond_yes (eqb x x) (o y p) (o y x) (eqb_refl x) (and_r (not (eqb y x)) (cond (eqb x x) (o y p) (o y x)) h)

  pub split-half-i : (y : ℕ) → T (not (eqb y x)) → T (o y p) → T (split p x o y x)
  split-half-i y m h = and_i (not (eqb y x)) (cond (eqb x x) (o y p) (o y x)) m (cond-yes-i (eqb x x) (o y p) (o y x) (eqb_refl x) h)

  -- the place that an open place was split from
  pub split-old : (y q : ℕ) → T (split p x o y q) → (q' : ℕ) × T (o y q')
  split-old y q h = ⊎_elim (λ e. (p, split-half y (rw (eqb→eq q x e) at h))) (λ n. (q, split-e y q n h)) (tf (eqb q x))
