-- The steps keep exactly the rounds that 01 names: placing those that use the place, closing those that do not, excluding those without
-- the node, requiring those with it.
use mathlib.Core.Path.{◌≡◌, subst, sym}
use Prim.Native.Nat.{ℕ}
use mathlib.Core.Bool.{not, ◌&&◌}
use mathlib.Core.List.{List, ◌∷◌}
use mathlib.Core.Logic.{◌⊎◌, inl, inr, ⊎_elim, ◌↔◌}
use lib.Dec.{T, T_not, not_T, eqb, eqb→eq, eqb_refl}
use Rattle.laws.proofs.Logic.{and_i, and_l, and_r, or_l, or_r, or-e, tf, not-or-i, not-or-l, not-or-r, contra}
use Rattle.laws.proofs.Lists.{keep, mem-sub, mem-hd, mem-tl, mem-ne}
use Rattle.laws.specs.Basic.{mem}
use Rattle.rules.specs.Day.{Day}
use Rattle.rules.specs.Leg.{leg_stops}
use Rattle.rules.specs.Plan.{Plan, Places}
use Rattle.rules.specs.Rounds.{Distinct, Within, done, stop, extra, Inside, both, Belongs}
use Rattle.rules.specs.Steps.{put_after, split, placed, closed, excluded, required, uses_after, uses}
use Rattle.rules.specs.Asked.{Formed}
use Rattle.rules.proofs.Placing.{Ins, at, on, put-ins, ins-mem, split-ne, split-e, split-i, split-half, split-half-i}
use Rattle.rules.proofs.Nodes.{distinct_tail, distinct-off, distinct-skip, off-sub, within-sub}
use Rattle.rules.proofs.Using.{apart-ahead, within_more, uses-stop, uses-here, uses-past, uses-none, uses-mem}

module _ (o : Places) (p x : ℕ) where
  -- ---- placing: the rounds of the new plan are rounds of the old one

  after-old : {c : ℕ} {r R : List ℕ} → T (not (mem x (c ∷ r))) → Within (split p x o) c r R → Within o c r R
  after-old h done = done
  after-old {c} h (stop {k = k} {r = r} w) = stop (after-old (not-or-r (eqb c x) (mem x (k ∷ r)) h) w)
  after-old {c} h (extra {x = y} {k = k} {r = r} t w) = extra (split-e p x o y c (not-or-l (eqb c x) (mem x (k ∷ r)) h) t) (after-old h w)

  half-old : {k : ℕ} {r R : List ℕ} → T (not (mem x (k ∷ r))) → Within (split p x o) x (k ∷ r) R → Within o p (k ∷ r) R
  half-old h (stop w) = stop (after-old h w)
  half-old h (extra {x = y} t w) = extra (split-half p x o y t) (half-old h w)

  pub place-old : {c : ℕ} {r r' R : List ℕ} → T (o x p) → T (not (mem x (c ∷ r))) → Ins p x c r r' → Within (split p x o) c r' R → Within o c r R
  place-old t h (at {k = k} {r = r}) (stop w) = extra t (half-old (not-or-r (eqb p x) (mem x (k ∷ r)) h) w)
  place-old t h (at {k = k} {r = r}) (extra {x = y} u w) = extra (split-e p x o y p (not-or-l (eqb p x) (mem x (k ∷ r)) h) u) (place-old t h at w)
  place-old {c} t h (on {k = k} {r = r} i) (stop w) = stop (place-old t (not-or-r (eqb c x) (mem x (k ∷ r)) h) i w)
  place-old {c} t h (on {k = k} {r = r} i) (extra {x = y} u w) = extra (split-e p x o y c (not-or-l (eqb c x) (mem x (k ∷ r)) h) u) (place-old t h (on i) w)

  -- and use the place
  place-uses : {n c : ℕ} {r r' R : List ℕ} → Distinct n (c ∷ R) → T (not (mem x (c ∷ r))) → Ins p x c r r' → Within (split p x o) c r' R → T (uses_after p x c r R)
  place-uses g h (at {k = k} {r = r}) (stop {R = R} w) = (uses-here p x p k r R x (apart-ahead (distinct_tail g) (within-sub w)) (eqb_refl x)).1 (eqb_refl p)
  place-uses g h (at {k = k} {r = r}) (extra {x = y} {R = R} t w) =
      (uses-past p x p k r R y (mem-ne y k R (distinct-off (distinct_tail g)) (mem-sub k (within-sub w) (mem-tl k x (k ∷ r) (mem-hd k r)))) (split-ne p x o y p t)).1 (place-uses (distinct-skip g) h at w)
  place-uses {c = c} g h (on {k = k} {r = r} i) (stop {R = R} w) = (uses-stop p x c k r R).1 (place-uses (distinct_tail g) (not-or-r (eqb c x) (mem x (k ∷ r)) h) i w)
  place-uses {c = c} g h (on {k = k} {r = r} i) (extra {x = y} {R = R} t w) =
      (uses-past p x c k r R y (apart-ahead (distinct_tail g) (within-sub w)) (split-ne p x o y c t)).1 (place-uses (distinct-skip g) h (on i) w)

  -- ---- placing: the rounds of the old plan that use the place are rounds of the new one

  after-new : {c : ℕ} {r R : List ℕ} → T (not (mem x (c ∷ R))) → Within o c r R → Within (split p x o) c r R
  after-new h done = done
  after-new {c} h (stop {k = k} {R = R} w) = stop (after-new (not-or-r (eqb c x) (mem x (k ∷ R)) h) w)
  after-new {c} h (extra {x = y} {R = R} t w) =
      let h₀ = not-or-l (eqb c x) (mem x (y ∷ R)) h in
      let h₁ = not-or-r (eqb c x) (mem x (y ∷ R)) h in
      extra (split-i p x o y c (not-or-l (eqb y x) (mem x R) h₁) h₀ t) (after-new (not-or-i (eqb c x) (mem x R) h₀ (not-or-r (eqb y x) (mem x R) h₁)) w)

  half-new : {k : ℕ} {r R : List ℕ} → T (not (mem x R)) → Within o p (k ∷ r) R → Within (split p x o) x (k ∷ r) R
  half-new h (stop w) = stop (after-new h w)
  half-new h (extra {x = y} {R = R} t w) = extra (split-half-i p x o y (not-or-l (eqb y x) (mem x R) h) t) (half-new (not-or-r (eqb y x) (mem x R) h) w)

  place-new : {n c : ℕ} {r r' R : List ℕ} → Distinct n (c ∷ R) → T (not (mem x (c ∷ r))) → Ins p x c r r' → Within o c r R → T (uses_after p x c r R)
      → Within (split p x o) c r' R
  place-new g h (at {k = k} {r = r}) (stop {R = R} w) t =
      absurd (uses-none p x (distinct_tail g) w (off-sub p (keep (within-sub w)) (distinct-off g)) ((uses-stop p x p k r R).0 t))
  place-new g h (at {k = k} {r = r}) (extra {x = y} {R = R} v w) t = go (tf (eqb y x)) (place-new (distinct-skip g) h at w)
    where
      go : T (eqb y x) ⊎ T (not (eqb y x)) → (T (uses_after p x p (k ∷ r) R) → Within (split p x o) p (x ∷ k ∷ r) R) → Within (split p x o) p (x ∷ k ∷ r) (y ∷ R)
      go (inl e) f =
          let y≡x = eqb→eq y x e in
          subst (λ (m : ℕ). Within (split p x o) p (x ∷ k ∷ r) (m ∷ R)) (sym y≡x) (stop (half-new (subst (λ (m : ℕ). T (not (mem m R))) y≡x (distinct-off (distinct_tail g))) w))
      go (inr n) f = extra (split-i p x o y p n (not-or-l (eqb p x) (mem x (k ∷ r)) h) v) (f ((uses-past p x p k r R y (apart-ahead (distinct_tail g) (within-sub w)) n).0 t))
  place-new {c = c} g h (on {k = k} {r = r} i) (stop {R = R} w) t = stop (place-new (distinct_tail g) (not-or-r (eqb c x) (mem x (k ∷ r)) h) i w ((uses-stop p x c k r R).0 t))
  place-new {c = c} g h (on {k = k} {r = r} {r' = r'} i) (extra {x = y} {R = R} v w) t = go (tf (eqb y x)) (place-new (distinct-skip g) h (on i) w)
    where
      n₀ : T (not (eqb y k))
      n₀ = apart-ahead (distinct_tail g) (within-sub w)

      go : T (eqb y x) ⊎ T (not (eqb y x)) → (T (uses_after p x c (k ∷ r) R) → Within (split p x o) c (k ∷ r') R) → Within (split p x o) c (k ∷ r') (y ∷ R)
      go (inl e) f =
          let c≡p = eqb→eq c p ((uses-here p x c k r R y n₀ e).0 t) in
          absurd (T_not (mem c (y ∷ R)) (distinct-off g) (mem-tl c y R (mem-sub c (within-sub w) (subst (λ (m : ℕ). T (mem m (k ∷ r))) (sym c≡p) (ins-mem i)))))
      go (inr n) f = extra (split-i p x o y c n (not-or-l (eqb c x) (mem x (k ∷ r)) h) v) (f ((uses-past p x c k r R y n₀ n).0 t))

  -- ---- closing

  abbrev shut : Places
  shut y q = o y q && not (eqb y x && eqb q p)

  close-not : {n c : ℕ} {r R : List ℕ} → Distinct n (c ∷ R) → Within shut c r R → T (uses_after p x c r R) → ⊥
  close-not g done t = t
  close-not {c = c} g (stop {k = k} {r = r} {R = R} w) t = close-not (distinct_tail g) w ((uses-stop p x c k r R).0 t)
  close-not {c = c} g (extra {x = y} {k = k} {r = r} {R = R} v w) t = go (tf (eqb y x)) (close-not (distinct-skip g) w)
    where
      n : T (not (eqb y k))
      n = apart-ahead (distinct_tail g) (within-sub w)

      go : T (eqb y x) ⊎ T (not (eqb y x)) → (T (uses_after p x c (k ∷ r) R) → ⊥) → ⊥
      go (inl e) f = T_not (eqb y x && eqb c p) (and_r (o y c) (not (eqb y x && eqb c p)) v) (and_i (eqb y x) (eqb c p) e ((uses-here p x c k r R y n e).0 t))
      go (inr m) f = f ((uses-past p x c k r R y n m).0 t)

  close-new : {n c : ℕ} {r R : List ℕ} → Distinct n (c ∷ R) → Within o c r R → (T (uses_after p x c r R) → ⊥) → Within shut c r R
  close-new g done t = done
  close-new {c = c} g (stop {k = k} {r = r} {R = R} w) t = stop (close-new (distinct_tail g) w (λ u. t ((uses-stop p x c k r R).1 u)))
  close-new {c = c} g (extra {x = y} {k = k} {r = r} {R = R} v w) t = go (tf (eqb y x)) (close-new (distinct-skip g) w)
    where
      n : T (not (eqb y k))
      n = apart-ahead (distinct_tail g) (within-sub w)

      gone : T (eqb y x) → T (uses_after p x c (k ∷ r) R) → ⊥
      gone e u = T_not (mem x R) (subst (λ (m : ℕ). T (not (mem m R))) (eqb→eq y x e) (distinct-off (distinct_tail g))) (uses-mem p x (distinct-skip g) w u)

      go : T (eqb y x) ⊎ T (not (eqb y x)) → ((T (uses_after p x c (k ∷ r) R) → ⊥) → Within shut c (k ∷ r) R) → Within shut c (k ∷ r) (y ∷ R)
      go (inl e) f = extra (and_i (o y c) (not (eqb y x && eqb c p)) v (not_T (eqb y x && eqb c p) (λ u. t ((uses-here p x c k r R y n e).1 (and_r (eqb y x) (eqb c p) u))))) (f (gone e))
      go (inr m) f = extra (and_i (o y c) (not (eqb y x && eqb c p)) v (contra (eqb y x && eqb c p) (eqb y x) (and_l (eqb y x) (eqb c p)) m)) (f (λ u. t ((uses-past p x c k r R y n m).1 u)))

-- ---- excluding

module _ (o : Places) (x : ℕ) where
  abbrev without : Places
  without y q = o y q && not (eqb y x)

  exclude-not : {c : ℕ} {r R : List ℕ} → T (not (mem x r)) → Within without c r R → T (not (mem x R))
  exclude-not h done = tt
  exclude-not h (stop {k = k} {r = r} {R = R} w) = not-or-i (eqb k x) (mem x R) (not-or-l (eqb k x) (mem x r) h) (exclude-not (not-or-r (eqb k x) (mem x r) h) w)
  exclude-not {c} h (extra {x = y} {R = R} t w) = not-or-i (eqb y x) (mem x R) (and_r (o y c) (not (eqb y x)) t) (exclude-not h w)

  exclude-new : {c : ℕ} {r R : List ℕ} → T (not (mem x R)) → Within o c r R → Within without c r R
  exclude-new h done = done
  exclude-new h (stop {k = k} {R = R} w) = stop (exclude-new (not-or-r (eqb k x) (mem x R) h) w)
  exclude-new {c} h (extra {x = y} {R = R} t w) = extra (and_i (o y c) (not (eqb y x)) t (not-or-l (eqb y x) (mem x R) h)) (exclude-new (not-or-r (eqb y x) (mem x R) h) w)

-- ---- the same of whole rounds

place_inside : {n : ℕ} (o : Places) (p x : ℕ) {z : ℕ} {r r' R : List ℕ} → Distinct n R → T (o x p) → T (not (mem x (z ∷ r))) → Ins p x z r r'
    → Inside (split p x o) (z ∷ r') R → Inside o (z ∷ r) R × T (uses p x (z ∷ r) R)
place_inside o p x g t h i (both w) = (both (place-old o p x t h i w), place-uses o p x g h i w)

inside-place : {n : ℕ} (o : Places) (p x : ℕ) {z : ℕ} {r r' R : List ℕ} → Distinct n R → T (not (mem x (z ∷ r))) → Ins p x z r r'
    → Inside o (z ∷ r) R → T (uses p x (z ∷ r) R) → Inside (split p x o) (z ∷ r') R
inside-place o p x g h i (both w) t = both (place-new o p x g h i w t)

place-both : {n : ℕ} (o : Places) (p x : ℕ) {z : ℕ} {r : List ℕ} (rt R : List ℕ) → rt ≡ z ∷ r → Distinct n R → T (o x p) → T (not (mem x rt)) → T (mem p (leg_stops rt))
    → Inside (split p x o) (put_after p x rt) R ↔ (Inside o rt R × T (uses p x rt R))
place-both o p x {z} {r} rt R e g t h m =
    subst (λ (l : List ℕ). T (not (mem x l)) → T (mem p (leg_stops l)) → Inside (split p x o) (put_after p x l) R ↔ (Inside o l R × T (uses p x l R))) (sym e) both h m
  where
    both : T (not (mem x (z ∷ r))) → T (mem p (leg_stops (z ∷ r))) → Inside (split p x o) (put_after p x (z ∷ r)) R ↔ (Inside o (z ∷ r) R × T (uses p x (z ∷ r) R))
    both h m =
        let u = put-ins p x z r m in
        subst (λ (l : List ℕ). Inside (split p x o) l R ↔ (Inside o (z ∷ r) R × T (uses p x (z ∷ r) R))) (sym u.is)
        (place_inside o p x g t h u.ins, λ k. inside-place o p x g h u.ins k.0 k.1)

close-inside : {n : ℕ} (o : Places) (p x : ℕ) {rt R : List ℕ} → Distinct n R → Inside (shut o p x) rt R → Inside o rt R × T (not (uses p x rt R))
close-inside o p x g (both {z = z} {r = r} {R = R} w) =
    (both (within_more (λ y q. and_l (o y q) (not (eqb y x && eqb q p))) w), not_T (uses_after p x z r R) (close-not o p x g w))

inside-close : {n : ℕ} (o : Places) (p x : ℕ) {rt R : List ℕ} → Distinct n R → Inside o rt R → T (not (uses p x rt R)) → Inside (shut o p x) rt R
inside-close o p x g (both {z = z} {r = r} {R = R} w) t = both (close-new o p x g w (T_not (uses_after p x z r R) t))

exclude-inside : (o : Places) (x : ℕ) {rt R : List ℕ} → T (not (mem x rt)) → Inside (without o x) rt R → Inside o rt R × T (not (mem x R))
exclude-inside o x h (both {z = z} {r = r} {R = R} w) = (
  both (within_more (λ y q. and_l (o y q) (not (eqb y x))) w),
  not-or-i (eqb z x) (mem x R) (not-or-l (eqb z x) (mem x r) h) (exclude-not o x (not-or-r (eqb z x) (mem x r) h) w),
)

inside-exclude : (o : Places) (x : ℕ) {rt R : List ℕ} → T (not (mem x R)) → Inside o rt R → Inside (without o x) rt R
inside-exclude o x h (both {z = z} {R = R} w) = both (exclude-new o x (not-or-r (eqb z x) (mem x R) h) w)

-- ---- the four steps

module _ (d : Day) (a : Plan) (R : List ℕ) where
  -- 1: those that use the place
  pub placed-rounds : (p x : ℕ) → Formed d a → T (a.places x p) → Belongs d (placed p x a) R ↔ (Belongs d a R × T (uses p x a.route R))
  placed-rounds p x form t = (
    λ b. let u = (both b.nodes).0 b.inside in (record { nodes = b.nodes; inside = u.0; needed = b.needed }, u.1),
    λ u. record { nodes = u.0.nodes; inside = (both u.0.nodes).1 (u.0.inside, u.1); needed = u.0.needed },
  )
    where
      both : Distinct d.n R → Inside (split p x a.places) (put_after p x a.route) R ↔ (Inside a.places a.route R × T (uses p x a.route R))
      both g = place-both a.places p x a.route R form.starts g t (form.off x p t) (form.leg x p t)

  -- 2: those that do not
  pub closed-rounds : (p x : ℕ) → Belongs d (closed p x a) R ↔ (Belongs d a R × T (not (uses p x a.route R)))
  closed-rounds p x = (
    λ b. let u = close-inside a.places p x b.nodes b.inside in (record { nodes = b.nodes; inside = u.0; needed = b.needed }, u.1),
    λ u. record { nodes = u.0.nodes; inside = inside-close a.places p x u.0.nodes u.0.inside u.1; needed = u.0.needed },
  )

  -- 3: those without x
  pub excluded-rounds : (x : ℕ) → T (not (mem x a.route)) → Belongs d (excluded x a) R ↔ (Belongs d a R × T (not (mem x R)))
  excluded-rounds x n = (
    λ b. let u = exclude-inside a.places x n b.inside in (record { nodes = b.nodes; inside = u.0; needed = b.needed }, u.1),
    λ u. record { nodes = u.0.nodes; inside = inside-exclude a.places x u.1 u.0.inside; needed = u.0.needed },
  )

  -- 4: those with x
  pub required-rounds : (x : ℕ) → Belongs d (required x a) R ↔ (Belongs d a R × T (mem x R))
  required-rounds x = (
    λ b. (record { nodes = b.nodes; inside = b.inside; needed = λ y t. b.needed y (or_l (a.marks y) (eqb y x) t) }, b.needed x (or_r (a.marks x) (eqb x x) (eqb_refl x))),
    λ u. record {
      nodes = u.0.nodes;
      inside = u.0.inside;
      needed = λ y t. ⊎_elim (u.0.needed y) (λ e. subst (λ (c : ℕ). T (mem c R)) (sym (eqb→eq y x e)) u.1) (or-e (a.marks y) (eqb y x) t);
    },
  )
