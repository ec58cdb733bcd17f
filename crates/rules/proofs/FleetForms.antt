-- Several vans: the fresh fleet is in form, and the steps keep the form.
use mathlib.Core.Path.{sym, subst, ◌∙◌}
use Prim.Native.Nat.{ℕ, ◌<◌}
use mathlib.Core.Bool.{cond, not, ◌&&◌, ◌||◌}
use mathlib.Core.List.{List, [], ◌∷◌}
use mathlib.Core.Logic.{◌⊎◌, inl, inr, ⊎_elim, ◌≢◌}
use lib.Dec.{T, T_not, not_T, eqb, eqb→eq, eqb_refl}
use Rattle.rules.specs.Day.{Day, inner}
use Rattle.rules.specs.declared.Van.{Van}
use Rattle.rules.specs.Plan.{Plan, Places}
use Rattle.rules.specs.Steps.{put_after, split, placed, closed, excluded, required}
use Rattle.rules.specs.Settle.{settled}
use Rattle.rules.specs.Verdict.{has_place}
use Rattle.rules.specs.Asked.{Formed}
use Rattle.rules.specs.Fleet.{Plans, served, in_van, placed_in, obliged, FormedAll}
use Rattle.rules.proofs.Left.{◌⊆◌}
use Rattle.rules.proofs.Placing.{split-old}
use Rattle.rules.proofs.Fixpoint.{settle-less}
use Rattle.rules.proofs.Forms.{placed-formed, closed-formed, excluded-formed, settled-formed, required-formed}
use Rattle.rules.proofs.FleetRounds.{open-served, open-off, SamePlans, van-same}
use Rattle.laws.proofs.Logic.{and_l, and_r, or_l, or_r, or-e, or_mono, not-or-i, contra, by-test}
use Rattle.laws.specs.Basic.{mem, any, In}
use Rattle.laws.proofs.Lists.{any-i, any-e, any_none}

-- ---- what a step serves

-- with fewer places open, no ward that was not served before
fewer-served : (a : Plan) (o : Places) (y : ℕ) → o ⊆ a.places → T (mem y a.route || any (o y) a.route) → T (served a y)
fewer-served a o y h = or_mono (mem y a.route) (any (o y) a.route) (mem y a.route) (has_place a y) (λ m. m)
    (any-e (o y) a.route (λ q i t. any-i (a.places y) i (h y q t)))

-- one stop more on the route
put-mem : (p x y : ℕ) (rt : List ℕ) → T (mem y (put_after p x rt)) → T (eqb x y) ⊎ T (mem y rt)
put-mem p x y [] m = absurd m
put-mem p x y (c ∷ r) m =
    by-test (λ b. T (mem y (cond b (c ∷ x ∷ r) (c ∷ put_after p x r))) → T (eqb x y) ⊎ T (mem y (c ∷ r))) (eqb c p)
    (λ e. after (x ∷ r) (or-e (eqb x y) (mem y r))) (λ n. after (put_after p x r) (put-mem p x y r)) m
  where
    after : (l : List ℕ) → (T (mem y l) → T (eqb x y) ⊎ T (mem y r)) → T (mem y (c ∷ l)) → T (eqb x y) ⊎ T (mem y (c ∷ r))
    after l k h = ⊎_elim (λ e. inr (or_l (eqb c y) (mem y r) e)) (λ u. ⊎_elim inl (λ w. inr (or_r (eqb c y) (mem y r) w)) (k u)) (or-e (eqb c y) (mem y l) h)

-- nor with a ward placed that was open
placed-served : {d : Day} (a : Plan) (p x y : ℕ) → Formed d a → T (a.places x p) → T (served (placed p x a) y) → T (served a y)
placed-served a p x y form t h =
    ⊎_elim
    (λ m. ⊎_elim (λ e. rw (sym (eqb→eq x y e)) (open-served a x p form t)) (or_l (mem y a.route) (has_place a y)) (put-mem p x y a.route m))
    (any-e (split p x a.places y) (put_after p x a.route) (λ q i s. let u = split-old p x a.places y q s in open-served a y u.0 form u.1))
    (or-e (mem y (put_after p x a.route)) (any (split p x a.places y) (put_after p x a.route)) h)

-- excluded off the route, a ward is not served
excluded-not : (a : Plan) (x : ℕ) → T (not (mem x a.route)) → T (not (served (excluded x a) x))
excluded-not a x n = not-or-i (mem x a.route) (has_place (excluded x a) x) n
    (not_T (has_place (excluded x a) x) (any_none ((excluded x a).places x) a.route (λ q t. T_not (eqb x x) (and_r (a.places x q) (not (eqb x x)) t) (eqb_refl x))))

-- ---- the steps

module _ (d : Day) (f : Plans) (form : FormedAll d f) where
  -- the law of a step that makes the plan of each van j the plan `plan j`: each is in form and serves only wards that it served, and one that is
  -- new on a route is served in no other van
  remade-formed : (plan : ℕ → Plan) → ((j : ℕ) → j < f.vans → Formed d (plan j))
      → ((j y : ℕ) → j < f.vans → T (served (plan j) y) → T (served (f.plan j) y))
      → ((i j y : ℕ) → i < f.vans → j < f.vans → i ≢ j → T (mem y (plan i).route) → T (mem y (f.plan i).route) ⊎ T (not (served (plan j) y)))
      → FormedAll d (record { vans = f.vans; plan = plan; must = f.must })
  remade-formed plan each less new = record {
    each = each;
    apart = λ i j y l k ne n m.
        ⊎_elim (λ old. contra (served (plan j) y) (served (f.plan j) y) (less j y k) (form.apart i j y l k ne n old)) (λ u. u) (new i j y l k ne m);
  }

  -- 1: placing, where the place is open
  pub placed-formed-all : (i p x : ℕ) → i < f.vans → T ((f.plan i).places x p) → FormedAll d (placed_in i p x f)
  placed-formed-all i p x low t = remade-formed (placed_in i p x f).plan each less new
    where
      each : (j : ℕ) → j < f.vans → Formed d ((placed_in i p x f).plan j)
      each j l = by-test (λ b. Formed d (cond b (placed p x (f.plan j)) (excluded x (f.plan j)))) (eqb j i)
          (λ e. rw (eqb→eq j i e) (placed-formed d (f.plan i) p x (form.each i low) t)) (λ n. excluded-formed d (f.plan j) x (form.each j l))

      less : (j y : ℕ) → j < f.vans → T (served ((placed_in i p x f).plan j) y) → T (served (f.plan j) y)
      less j y l = by-test (λ b. T (served (cond b (placed p x (f.plan j)) (excluded x (f.plan j))) y) → T (served (f.plan j) y)) (eqb j i)
          (λ e. rw (eqb→eq j i e) (placed-served (f.plan i) p x y (form.each i low) t))
          (λ n. fewer-served (f.plan j) (excluded x (f.plan j)).places y (λ z q. and_l ((f.plan j).places z q) (not (eqb z x))))

      -- elsewhere x is gone
      gone : (j : ℕ) → j < f.vans → j ≢ i → T (not (served ((placed_in i p x f).plan j) x))
      gone j l ne = by-test (λ b. T (not (served (cond b (placed p x (f.plan j)) (excluded x (f.plan j))) x))) (eqb j i)
          (λ e. absurd (ne (eqb→eq j i e))) (λ n. excluded-not (f.plan j) x (open-off i j x p form low l ne t))

      new : (k j y : ℕ) → k < f.vans → j < f.vans → k ≢ j → T (mem y ((placed_in i p x f).plan k).route)
          → T (mem y (f.plan k).route) ⊎ T (not (served ((placed_in i p x f).plan j) y))
      new k j y l l' ne = by-test (λ b. T (mem y (cond b (placed p x (f.plan k)) (excluded x (f.plan k))).route)
          → T (mem y (f.plan k).route) ⊎ T (not (served ((placed_in i p x f).plan j) y))) (eqb k i)
          (λ e m. ⊎_elim (λ u. inr (rw (sym (eqb→eq x y u)) (gone j l' (λ q. ne (eqb→eq k i e ∙ sym q))))) inl (put-mem p x y (f.plan k).route m))
          (λ n m. inl m)

  -- the law of a step of van i alone: it keeps the plan's form, puts no ward on the route and serves none that was not served
  in-van-formed : (i : ℕ) (g : Plan → Plan) → ((a : Plan) → Formed d a → Formed d (g a)) → ((a : Plan) (y : ℕ) → T (mem y (g a).route) → T (mem y a.route))
      → ((a : Plan) (y : ℕ) → T (served (g a) y) → T (served a y)) → FormedAll d (in_van i g f)
  in-van-formed i g keep old less =
      remade-formed (in_van i g f).plan
      (λ j l. by-test (λ b. Formed d (cond b (g (f.plan j)) (f.plan j))) (eqb j i) (λ e. keep (f.plan j) (form.each j l)) (λ n. form.each j l))
      (λ j y l. by-test (λ b. T (served (cond b (g (f.plan j)) (f.plan j)) y) → T (served (f.plan j) y)) (eqb j i) (λ e. less (f.plan j) y) (λ n u. u))
      (λ k j y l l' ne m.
      inl (by-test (λ b. T (mem y (cond b (g (f.plan k)) (f.plan k)).route) → T (mem y (f.plan k).route)) (eqb k i) (λ e. old (f.plan k) y) (λ n u. u) m))

  -- 2: closing
  pub closed-formed-all : (i p x : ℕ) → FormedAll d (in_van i (closed p x) f)
  closed-formed-all i p x = in-van-formed i (closed p x) (λ a. closed-formed d a p x) (λ a y m. m)
      (λ a y. fewer-served a (closed p x a).places y (λ z q. and_l (a.places z q) (not (eqb z x && eqb q p))))

  -- 3: excluding
  pub excluded-formed-all : (i x : ℕ) → FormedAll d (in_van i (excluded x) f)
  excluded-formed-all i x = in-van-formed i (excluded x) (λ a. excluded-formed d a x) (λ a y m. m)
      (λ a y. fewer-served a (excluded x a).places y (λ z q. and_l (a.places z q) (not (eqb z x))))

  -- 4: requiring
  pub required-formed-all : (i x : ℕ) → In x (inner d) → FormedAll d (in_van i (required x) f)
  required-formed-all i x n = in-van-formed i (required x) (λ a. required-formed d a x n) (λ a y m. m) (λ a y u. u)

  -- 5: settling
  pub settled-formed-all : (i : ℕ) (v : Van) → FormedAll d (in_van i (settled v d) f)
  settled-formed-all i v = in-van-formed i (settled v d) (settled-formed v d) (λ a y m. m) (λ a y. fewer-served a (settled v d a).places y (settle-less v d a.route a.places))

  -- 8: the mark "must go somewhere"
  pub obliged-formed-all : (x : ℕ) → FormedAll d (obliged x f)
  obliged-formed-all x = record { each = form.each; apart = form.apart }

-- plans that differ only where there is no van are in form together
pub formed-same : (d : Day) {f g : Plans} → SamePlans f g → FormedAll d f → FormedAll d g
formed-same d s form = record {
  each = λ i l. subst (λ (a : Plan). Formed d a) (s.plan i (van-same s l)) (form.each i (van-same s l));
  apart = λ i j x l k ne n m. subst (λ (a : Plan). T (not (served a x))) (s.plan j (van-same s k))
      (form.apart i j x (van-same s l) (van-same s k) ne n (subst (λ (a : Plan). T (mem x a.route)) (sym (s.plan i (van-same s l))) m));
}
