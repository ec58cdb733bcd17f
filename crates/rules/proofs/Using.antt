-- Which place of the route a round uses, read along the round.
use mathlib.Core.Path.{subst}
use Prim.Native.Nat.{ℕ}
use mathlib.Core.Bool.{Bool, cond, not}
use mathlib.Core.List.{List, ◌∷◌}
use mathlib.Core.Logic.{◌⊎◌, inl, inr, ◌↔◌}
use lib.Dec.{T, T_not, eqb, eqb→eq, eqb_refl}
use Rattle.laws.proofs.Logic.{or_l, tf, not-or-l, not-or-r, cond_yes, cond_no, cond-yes-i, cond-no-i}
use Rattle.laws.proofs.Lists.{Sub, mem-sub, mem-hd, mem-tl, mem-ne}
use Rattle.laws.specs.Basic.{mem}
use Rattle.rules.specs.Plan.{Places}
use Rattle.rules.specs.Rounds.{Distinct, Within, done, stop, extra, Inside, both}
use Rattle.rules.specs.Steps.{uses_after}
use Rattle.rules.proofs.Left.{◌⊆◌}
use Rattle.rules.proofs.Nodes.{distinct_tail, distinct-off, distinct-skip, within-sub}

-- a node between two stops of the route is not the second of them
pub apart-ahead : {n y k : ℕ} {r R : List ℕ} → Distinct n (y ∷ R) → Sub (k ∷ r) R → T (not (eqb y k))
apart-ahead {y = y} {k = k} {r = r} {R = R} g u = mem-ne y k R (distinct-off g) (mem-sub k u (mem-hd k r))

-- with more open, the round stays within
pub within_more : {o o' : Places} {p : ℕ} {r R : List ℕ} → o ⊆ o' → Within o p r R → Within o' p r R
within_more f done = done
within_more f (stop w) = stop (within_more f w)
within_more {p = p} f (extra {x = x} t w) = extra (f x p t) (within_more f w)

pub inside-more : {o o' : Places} {rt R : List ℕ} → o ⊆ o' → Inside o rt R → Inside o' rt R
inside-more f (both w) = both (within_more f w)

module _ (p x c k : ℕ) (r R : List ℕ) where
  abbrev elsewhere : ℕ → Bool
  elsewhere y = cond (eqb y x) (eqb c p) (uses_after p x c (k ∷ r) R)

  -- at a stop, at x, at another node
  pub uses-stop : T (uses_after p x c (k ∷ r) (k ∷ R)) ↔ T (uses_after p x k r R)
  uses-stop = (cond_yes (eqb k k) (uses_after p x k r R) (elsewhere k) (eqb_refl k), cond-yes-i (eqb k k) (uses_after p x k r R) (elsewhere k) (eqb_refl k))

  module _ (y : ℕ) (n : T (not (eqb y k))) where
    pub uses-here : T (eqb y x) → T (uses_after p x c (k ∷ r) (y ∷ R)) ↔ T (eqb c p)
    uses-here e = (
      λ t. cond_yes (eqb y x) (eqb c p) (uses_after p x c (k ∷ r) R) e (cond_no (eqb y k) (uses_after p x k r R) (elsewhere y) n t),
      λ t. cond-no-i (eqb y k) (uses_after p x k r R) (elsewhere y) n (cond-yes-i (eqb y x) (eqb c p) (uses_after p x c (k ∷ r) R) e t),
    )

    pub uses-past : T (not (eqb y x)) → T (uses_after p x c (k ∷ r) (y ∷ R)) ↔ T (uses_after p x c (k ∷ r) R)
    uses-past m = (
      λ t. cond_no (eqb y x) (eqb c p) (uses_after p x c (k ∷ r) R) m (cond_no (eqb y k) (uses_after p x k r R) (elsewhere y) n t),
      λ t. cond-no-i (eqb y k) (uses_after p x k r R) (elsewhere y) n (cond-no-i (eqb y x) (eqb c p) (uses_after p x c (k ∷ r) R) m t),
    )

module _ {o : Places} (p x : ℕ) where
  -- a place that is no leg of the rest is not used there
  pub uses-none : {n c : ℕ} {r R : List ℕ} → Distinct n (c ∷ R) → Within o c r R → T (not (mem p (c ∷ r))) → T (uses_after p x c r R) → ⊥
  uses-none g done h t = t
  uses-none {c = c} g (stop {k = k} {r = r} {R = R} w) h t = uses-none (distinct_tail g) w (not-or-r (eqb c p) (mem p (k ∷ r)) h) ((uses-stop p x c k r R).0 t)
  uses-none {c = c} g (extra {x = y} {k = k} {r = r} {R = R} v w) h t = go (tf (eqb y x)) (uses-none (distinct-skip g) w h)
    where
      n : T (not (eqb y k))
      n = apart-ahead (distinct_tail g) (within-sub w)

      go : T (eqb y x) ⊎ T (not (eqb y x)) → (T (uses_after p x c (k ∷ r) R) → ⊥) → ⊥
      go (inl e) f = T_not (eqb c p) (not-or-l (eqb c p) (mem p (k ∷ r)) h) ((uses-here p x c k r R y n e).0 t)
      go (inr m) f = f ((uses-past p x c k r R y n m).0 t)

  -- the node of a place that is used is in the round
  pub uses-mem : {n c : ℕ} {r R : List ℕ} → Distinct n (c ∷ R) → Within o c r R → T (uses_after p x c r R) → T (mem x R)
  uses-mem g done t = t
  uses-mem {c = c} g (stop {k = k} {r = r} {R = R} w) t = mem-tl x k R (uses-mem (distinct_tail g) w ((uses-stop p x c k r R).0 t))
  uses-mem {c = c} g (extra {x = y} {k = k} {r = r} {R = R} v w) t = go (tf (eqb y x)) (uses-mem (distinct-skip g) w)
    where
      go : T (eqb y x) ⊎ T (not (eqb y x)) → (T (uses_after p x c (k ∷ r) R) → T (mem x R)) → T (mem x (y ∷ R))
      go (inl e) f = or_l (eqb y x) (mem x R) e
      go (inr m) f = mem-tl x y R (f ((uses-past p x c k r R y (apart-ahead (distinct_tail g) (within-sub w)) m).0 t))

  -- and the place is open
  pub uses-open : {n c : ℕ} {r R : List ℕ} → Distinct n (c ∷ R) → Within o c r R → T (uses_after p x c r R) → T (o x p)
  uses-open g done t = absurd t
  uses-open {c = c} g (stop {k = k} {r = r} {R = R} w) t = uses-open (distinct_tail g) w ((uses-stop p x c k r R).0 t)
  uses-open {c = c} g (extra {x = y} {k = k} {r = r} {R = R} v w) t = go (tf (eqb y x)) (uses-open (distinct-skip g) w)
    where
      n : T (not (eqb y k))
      n = apart-ahead (distinct_tail g) (within-sub w)

      go : T (eqb y x) ⊎ T (not (eqb y x)) → (T (uses_after p x c (k ∷ r) R) → T (o x p)) → T (o x p)
      go (inl e) f = subst (λ (m : ℕ). T (o m p)) (eqb→eq y x e) (subst (λ (m : ℕ). T (o y m)) (eqb→eq c p ((uses-here p x c k r R y n e).0 t)) v)
      go (inr m) f = f ((uses-past p x c k r R y n m).0 t)
