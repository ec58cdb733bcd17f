-- A round around a route, on a triangle day: what the rules say of the round they say of the route.
use mathlib.Core.Path.{subst, sym}
use Prim.Native.Nat.{ℕ}
use mathlib.Core.Bool.{not, ◌&&◌}
use mathlib.Core.List.{List, [], ◌∷◌}
use mathlib.Core.Logic.{◌⊎◌, inl, inr}
use lib.Dec.{T, T_not, eqb, eqb→eq}
use Rattle.laws.proofs.Logic.{and_l, and_r, and_mono, or_l, or_r, tf, not-or-l, not-or-r, cond_yes, cond_no}
use Rattle.laws.proofs.Lists.{Sub, nil, keep, skip, mem-sub, mem-tl, mem-rest}
use Rattle.laws.specs.Basic.{mem, any}
use Rattle.rules.specs.Day.{Day}
use Rattle.rules.specs.Time.{start, in_time, on_time}
use Rattle.rules.specs.Plan.{Places}
use Rattle.rules.specs.Rounds.{Distinct, Within, done, stop, extra, ordered}
use Rattle.rules.specs.Verdict.{wrong}
use Rattle.rules.specs.Asked.{Triangle}
use Rattle.rules.proofs.Cuts.{Cut, cut-next}
use Rattle.rules.proofs.Grows.{start-grows}
use Rattle.rules.proofs.Nodes.{distinct-off, distinct_tail, distinct-behind}
use Rattle.rules.proofs.Windows.{in-time-sooner}

module _ (d : Day) (tri : Triangle d) {z : ℕ} {R : List ℕ} (nodes : Distinct d.n (z ∷ R)) where
  pub time-grows : {A A' B B' : List ℕ} → Cut (z ∷ []) R A' B' → Sub A A' → Sub B B' → T (on_time d A' B') → T (on_time d A B)
  time-grows c s nil h = h
  time-grows {A} {A'} c s (keep {x = k} {l = B} {m = B'} t) h =
      and_mono (in_time d k (start d A' k)) (on_time d (k ∷ A') B') (in_time d k (start d A k)) (on_time d (k ∷ A) B)
      (in-time-sooner d k (start-grows d tri s (distinct-behind nodes (cut-next c)).0)) (time-grows (cut-next c) (keep s) t) h
  time-grows {A' = A'} c s (skip {x = y} {m = B'} t) h = time-grows (cut-next c) (skip s) t (and_r (in_time d y (start d A' y)) (on_time d (y ∷ A') B') h)

wrong-mem : (a b : ℕ) (l : List ℕ) → T (wrong a b l) → T (mem a l)
wrong-mem a b [] h = h
wrong-mem a b (x ∷ l) h = go (tf (eqb x b)) (wrong-mem a b l)
  where
    go : T (eqb x b) ⊎ T (not (eqb x b)) → (T (wrong a b l) → T (mem a l)) → T (mem a (x ∷ l))
    go (inl e) f = mem-tl a x l (cond_yes (eqb x b) (mem a l) (not (eqb x a) && wrong a b l) e h)
    go (inr n) f = mem-tl a x l (f (and_r (not (eqb x a)) (wrong a b l) (cond_no (eqb x b) (mem a l) (not (eqb x a) && wrong a b l) n h)))

-- in order in the round, so not in the wrong order on the route
pub not-wrong : {n : ℕ} (a b : ℕ) {l m : List ℕ} → Sub l m → Distinct n m → T (ordered a b m) → T (wrong a b l) → ⊥
not-wrong a b nil g h w = w
not-wrong a b (keep {x = x} {l = l} {m = m} s) g h w = go (tf (eqb x a)) (tf (eqb x b)) (not-wrong a b s (distinct_tail g))
  where
    go : T (eqb x a) ⊎ T (not (eqb x a)) → T (eqb x b) ⊎ T (not (eqb x b)) → (T (ordered a b m) → T (wrong a b l) → ⊥) → ⊥
    go (inl e) (inl e') f = T_not (mem x m) (distinct-off g) (mem-sub x s (subst (λ (c : ℕ). T (mem c l)) (sym (eqb→eq x a e)) (cond_yes (eqb x b) (mem a l) (not (eqb x a) && wrong a b l) e' w)))
    go (inl e) (inr n) f = T_not (eqb x a) (and_l (not (eqb x a)) (wrong a b l) (cond_no (eqb x b) (mem a l) (not (eqb x a) && wrong a b l) n w)) e
    go (inr n) (inl e) f = T_not (eqb x b) (and_l (not (eqb x b)) (ordered a b m) (cond_no (eqb x a) (mem b m) (not (eqb x b) && ordered a b m) n h)) e
    go (inr n) (inr n') f = f (and_r (not (eqb x b)) (ordered a b m) (cond_no (eqb x a) (mem b m) (not (eqb x b) && ordered a b m) n h))
        (and_r (not (eqb x a)) (wrong a b l) (cond_no (eqb x b) (mem a l) (not (eqb x a) && wrong a b l) n' w))
not-wrong a b {l = l} (skip {x = x} {m = m} s) g h w = go (tf (eqb x a)) (λ h. not-wrong a b s (distinct_tail g) h w)
  where
    go : T (eqb x a) ⊎ T (not (eqb x a)) → (T (ordered a b m) → ⊥) → ⊥
    go (inl e) f = T_not (mem x m) (distinct-off g) (subst (λ (c : ℕ). T (mem c m)) (sym (eqb→eq x a e)) (mem-sub a s (wrong-mem a b l w)))
    go (inr n) f = f (and_r (not (eqb x b)) (ordered a b m) (cond_no (eqb x a) (mem b m) (not (eqb x b) && ordered a b m) n h))

-- in order: one node in the round brings the other
pub ordered-both : (a b : ℕ) (R : List ℕ) → T (ordered a b R) → (T (mem a R) → T (mem b R)) × (T (mem b R) → T (mem a R))
ordered-both a b [] h = (λ m. m, λ m. m)
ordered-both a b (x ∷ R) h = go (tf (eqb x a)) (ordered-both a b R)
  where
    go : T (eqb x a) ⊎ T (not (eqb x a)) → (T (ordered a b R) → (T (mem a R) → T (mem b R)) × (T (mem b R) → T (mem a R)))
        → (T (mem a (x ∷ R)) → T (mem b (x ∷ R))) × (T (mem b (x ∷ R)) → T (mem a (x ∷ R)))
    go (inl e) f = (λ m. mem-tl b x R (cond_yes (eqb x a) (mem b R) (not (eqb x b) && ordered a b R) e h), λ m. or_l (eqb x a) (mem a R) e)
    go (inr n) f =
        let u = cond_no (eqb x a) (mem b R) (not (eqb x b) && ordered a b R) n h in
        let k = f (and_r (not (eqb x b)) (ordered a b R) u) in
        (λ m. mem-tl b x R (k.0 (mem-rest a x R n m)), λ m. mem-tl a x R (k.1 (mem-rest b x R (and_l (not (eqb x b)) (ordered a b R) u) m)))

-- a node of the round that is not on the route has an open place
pub within-place : {o : Places} {p : ℕ} {r R : List ℕ} (x : ℕ) → Within o p r R → T (mem x R) → T (not (mem x r)) → T (any (o x) (p ∷ r))
within-place x done m n = absurd m
within-place {o} {p} x (stop {k = k} {r = r} {R = R} w) m n =
    or_r (o x p) (any (o x) (k ∷ r)) (within-place x w (mem-rest x k R (not-or-l (eqb k x) (mem x r) n) m) (not-or-r (eqb k x) (mem x r) n))
within-place {o} {p} x (extra {x = y} {k = k} {r = r} {R = R} t w) m n = go (tf (eqb y x)) (λ u. within-place x w u n)
  where
    go : T (eqb y x) ⊎ T (not (eqb y x)) → (T (mem x R) → T (any (o x) (p ∷ k ∷ r))) → T (any (o x) (p ∷ k ∷ r))
    go (inl e) f = or_l (o x p) (any (o x) (k ∷ r)) (subst (λ (c : ℕ). T (o c p)) (eqb→eq y x e) t)
    go (inr q) f = f (mem-rest x y R q m)
