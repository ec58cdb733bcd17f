-- A walk along the route with the jobs by node: what is aboard at each stop, and that no transfer ends before it begins.
use mathlib.Core.Path.{◌≡◌, refl, sym, ap, ◌∙◌, subst}
use Prim.Native.Nat.{ℕ, suc, ◌+◌, ◌-◌, ◌*◌, ◌<◌, ◌≤◌}
use mathlib.Core.Bool.{Bool, true, false, cond, not, ◌&&◌, ◌||◌, and_comm, and-false}
use mathlib.Core.List.{List, []}
use mathlib.Core.Logic.{⊎_elim, ◌≢◌}
use native.Mathlib.Numerals.{add-one}
use native.Mathlib.Omega.{arith}
use lib.Dec.{T, T_not, leb, ltb, eqb}
use lib.ListN.{get_or, take, drop}
use lib.Seq.{get_or-take}
use borrow.Author.Tests.{ne_eqb, eqb-true, eqb-false, lt-ltb, le-ltb, lt-leb, le-leb, ltb-true, ltb-false}
use Rattle.laws.proofs.Logic.{decided, T-ext, true→T, T→true, tf}
use Rattle.laws.proofs.Lists.{all-i, all_in}
use Rattle.laws.specs.Basic.{mem, all, In, all_below}
use Rattle.laws.proofs.Table.{At, in-tab}
use Rattle.laws.proofs.Below.{below_none, below_next, below_at, below-make, below_fails, below-same, below_both}
use Rattle.bits.specs.Places.{has, with}
use Rattle.bits.proofs.Members.{has-none, has-with, false-true}
use Rattle.sheet.specs.Section.{m_of}
use Rattle.rules.specs.declared.Van.{Van}
use Rattle.rules.specs.Leg.{every_leg}
use Rattle.rules.specs.Verdict.{wrong, wrong_way}
use Rattle.rules.specs.Day.{Day}
use Rattle.rules.specs.Load.{load, carries}
use Rattle.rules.specs.Along.{behind, load_at}
use Rattle.rules.specs.declared.Job.{Job}
use Rattle.rules.specs.declared.Job.TheVariants.{Clean, Soiled, Transfer}
use Rattle.rules.proofs.AlongLaws.{mem-at, at_leg, every-all}
use Rattle.sheet.specs.declared.Layout.{Layout}
use Rattle.day.specs.Tell.{day_of, job_in}
use Rattle.along.specs.Nodes.{Routed}
use Rattle.along.proofs.ReadyLaws.{jobs-are}
use Rattle.along.proofs.RouteLaws.{stops-legs}
use Rattle.along.proofs.LoadLaws.{cond-low}
use Rattle.along.proofs.Mating.{nothing}
use Rattle.along.proofs.Walking.{size, is-job, near, low, mates, begins, first_some, past_next}
use Rattle.along.proofs.SpotLaws.{behind-found, found-behind, drop-found, found_drop, mem-found}
use Rattle.verdict.specs.Verdict.{load_kept}
use Rattle.verdict.proofs.Order.{Before, wrong-e, wrong-i}

-- at the i-th stop of the first n no transfer begins that has ended
unfoldable pub in_order : List ℕ → List ℕ → ℕ → ℕ → Bool
in_order t l n i = not (mem (get_or t (256 + get_or l i 0) 0) (behind (take n l) i) && not (eqb (get_or t (128 + get_or l i 0) 0) 0))

-- the leg that leaves it, if one does, is within the capacity
unfoldable pub leg_kept : Van → Day → List ℕ → ℕ → ℕ → Bool
leg_kept v d l n i = not (ltb (i + 1) n && ltb v.capacity (load_at d (take n l) i))

unfoldable pub stop_kept : Van → Day → List ℕ → List ℕ → ℕ → ℕ → Bool
stop_kept v d t l n i = in_order t l n i && leg_kept v d l n i

-- the van is before the i-th stop with so much aboard, and has seen the stops behind; all is well so far
pub record Laden (v : Van) (d : Day) (t l : List ℕ) (n i aboard seen : ℕ) : Type 0 where
  pub is : aboard ≡ load d (behind (take n l) i) (drop i (take n l))
  pub most : aboard ≤ 281474976710656 + 8796093022208 * i
  pub saw : (y : ℕ) → has seen y ≡ mem y (behind (take n l) i)
  pub ok : all_below i (stop_kept v d t l n) ≡ true

only : (b : Bool) → (b && true) ≡ false → b ≡ false
only true e = e
only false e = refl

T_false : {b : Bool} → b ≡ false → T b → ⊥
T_false e t = subst (λ (c : Bool). T c) e t

module _ {s : List ℕ} {at : Layout} {l : List ℕ} {n : ℕ} {t : List ℕ} (r : Routed s at l n t) where
  abbrev m : List ℕ
  m = take n l

  abbrev d : Day
  d = day_of s

  abbrev mate : ℕ → ℕ
  mate x = get_or t (256 + x) 0

  module _ (i : ℕ) (h : i < n) where
    abbrev x : ℕ
    x = get_or l i 0

    -- past the stop, where b tells whether the transfer that ends there has begun, and c whether the one that begins there ends
    pub walk-next : (b c : Bool) → b ≡ mem (mate x) (behind m i) → c ≡ mem (mate x) m → (b && not (eqb (get_or t (128 + x) 0) 0)) ≡ false
        → load d (behind m (i + 1)) (drop (i + 1) m) + (get_or t x 0 + cond b (get_or t (192 + x) 0) 0)
        ≡ load d (behind m i) (drop i m) + (get_or t (64 + x) 0 + cond c (get_or t (128 + x) 0) 0)
    walk-next b c eb ec ok =
        (λ u. load d (behind m (i + 1)) (drop (i + 1) m) + (get_or t x 0 + cond (eb u) (get_or t (192 + x) 0) 0)) ∙ past_next r i h
        ∙ ap (λ (k : ℕ). load d (behind m i) (drop i m) + (get_or t (64 + x) 0 + k)) ends
      where
        ahead : get_or t (128 + x) 0 ≢ 0 → mem (mate x) (drop (suc i) m) ≡ c
        ahead z = T-ext (mem (mate x) (drop (suc i) m)) (mem (mate x) m) there back ∙ sym ec
          where
            away : mem (mate x) (behind m i) ≡ false
            away = sym eb ∙ only b (sym (ap (λ (q : Bool). b && not q) (ne_eqb (get_or t (128 + x) 0) 0 z)) ∙ ok)

            differ : mate x ≢ x
            differ e = let q = begins r x (near r i h) z in let p = mates r q.0 x q.1 q.2 q.3 q.4 x (near r i h) in p.0 (sym e ∙ p.1 refl)

            there : T (mem (mate x) (drop (suc i) m)) → T (mem (mate x) m)
            there t = let f = drop-found (mate x) m (suc i) t in subst (λ (k : ℕ). T (mem k m)) f.is (mem-at m f.i f.high)

            back : T (mem (mate x) m) → T (mem (mate x) (drop (suc i) m))
            back t =
                let f = mem-found (mate x) m t in
                decided (ltb f.i i)
                (λ e. absurd (T_false away (found-behind (mate x) m i (record { i = f.i; low = omega arith; high = ltb-true f.i i e; is = f.is }))))
                (λ e. decided (eqb f.i i) (λ q. absurd (differ (sym f.is ∙ ap (λ (k : ℕ). get_or m k 0) (eqb-true f.i i q) ∙ get_or-take n l i 0 h)))
                (λ q. found_drop (mate x) m (suc i) (record { i = f.i; low = omega (arith, ltb-false f.i i e, eqb-false f.i i q); high = f.high; is = f.is })))

        ends : cond (mem (mate x) (drop (suc i) m)) (get_or t (128 + x) 0) 0 ≡ cond c (get_or t (128 + x) 0) 0
        ends =
            decided (eqb (get_or t (128 + x) 0) 0) (λ e. rw (eqb-true (get_or t (128 + x) 0) 0 e) (nothing (mem (mate x) (drop (suc i) m)) ∙ sym (nothing c)))
            (λ e. ap (λ (q : Bool). cond q (get_or t (128 + x) 0) 0) (ahead (eqb-false (get_or t (128 + x) 0) 0 e)))

  -- ---- the order of the transfers, stop by stop

  abbrev order : ℕ → Bool
  order = in_order t l n

  order-told : all_below n order ≡ all (λ j. not (wrong_way m j)) d.jobs
  unfolding in_order
  order-told = T-ext (all_below n order) (all (λ j. not (wrong_way m j)) d.jobs) there back
    where
      there : T (all_below n order) → T (all (λ j. not (wrong_way m j)) d.jobs)
      there y = all-i (λ j. not (wrong_way m j)) d.jobs (λ j i. right j (in-tab (m_of s) (job_in s) i))
        where
          right : (j : Job) → At (m_of s) (job_in s) j → T (not (wrong_way m j))
          right (Clean a w) p = tt
          right (Soiled a w) p = tt
          right (Transfer a b w) p = ⊎_elim (λ u. absurd (late (wrong-e a b m u))) (λ u. u) (tf (wrong a b m))
            where
              k : p.k < at.jobs
              k = omega (arith, p.low, jobs-are r.laid)

              late : Before a b m → ⊥
              late q =
                  let f : q.j < n = omega (arith, q.in-it, size r) in
                  let e : get_or l q.j 0 ≡ a = sym (get_or-take n l q.j 0 f) ∙ q.first in
                  let c : a < 64 = subst (λ (v : ℕ). v < 64) e (near r q.j f) in
                  let g : mem (mate a) (behind m q.j) ≡ true = T→true _ (found-behind (mate a) m q.j
                  (record { i = q.i; low = omega arith; high = q.less; is = q.second ∙ sym ((mates r p.k a b w k p.is a c).1 refl) })) in
                  let z : order q.j ≡ true = below_at n q.j order (T→true _ y) f in
                  false-true (sym (rw (e, g, ne_eqb (get_or t (128 + a) 0) 0 (first_some r p.k a b w k p.is c)) refl) ∙ z)

      back : T (all (λ j. not (wrong_way m j)) d.jobs) → T (all_below n order)
      back y = true→T _ (below-make n order (λ i h. right i h))
        where
          right : (i : ℕ) → i < n → order i ≡ true
          right i h =
              decided (mem (mate (get_or l i 0)) (behind m i))
              (λ e. decided (eqb (get_or t (128 + get_or l i 0) 0) 0) (λ f. rw (e, f) refl) (λ f. absurd (wrong-here (eqb-false _ _ f) e))) (λ e. rw e refl)
            where
              wrong-here : get_or t (128 + get_or l i 0) 0 ≢ 0 → mem (mate (get_or l i 0)) (behind m i) ≡ true → ⊥
              wrong-here f e =
                  let x = get_or l i 0 in
                  let q = begins r x (near r i h) f in
                  let b = q.1 in
                  let p = behind-found (mate x) m i (true→T _ e) in
                  T_not (wrong x b m) (all_in (λ j. not (wrong_way m j)) y (subst (λ (j : Job). In j d.jobs) q.4 (is-job r q.0 q.3)))
                  (wrong-i x b r.route.nodes p.i i p.high (omega (arith, size r)) (p.is ∙ (mates r q.0 x b q.2 q.3 q.4 x (near r i h)).1 refl) (get_or-take n l i 0 h))

  -- ---- both, stop by stop

  module _ (v : Van) where
    abbrev leg : ℕ → Bool
    leg = leg_kept v d l n

    legs-told : all_below n leg ≡ every_leg (carries v d) m
    unfolding leg_kept all_below
    legs-told =
        ap (λ (k : ℕ). all_below k leg) (sym (stops-legs r.route) ∙ add-one (n - 1))
        ∙ (λ u. below-same (n - 1) leg (at_leg (carries v d) m) each u && last u) ∙ and_yes (all_below (n - 1) (at_leg (carries v d) m))
        ∙ ap (λ (k : ℕ). all_below (k - 1) (at_leg (carries v d) m)) (sym (size r)) ∙ sym (every-all (carries v d) m)
      where
        over : (a b : ℕ) → not (ltb a b) ≡ leb b a
        over a b = decided (ltb a b) (λ e. rw (e, lt-leb b a (ltb-true a b e)) refl) (λ e. rw (e, le-leb b a (ltb-false a b e)) refl)

        each : (i : ℕ) → i < n - 1 → leg i ≡ at_leg (carries v d) m i
        each i h = rw (lt-ltb (i + 1) n (omega arith)) (over v.capacity (load_at d m i))

        last : leg (n - 1) ≡ true
        last = rw (le-ltb (n - 1 + 1) n (omega arith)) refl

        and_yes : (b : Bool) → (b && true) ≡ b
        and_yes true = refl
        and_yes false = refl

    abbrev stop : ℕ → Bool
    stop = stop_kept v d t l n

    pub stops-told : all_below n stop ≡ load_kept v d m
    unfolding stop_kept load_kept
    stops-told =
        below_both n order leg stop (λ i. refl) ∙ and_comm (all_below n order) (all_below n leg)
        ∙ (λ u. legs-told u && order-told u)

    pub laden-none : {aboard : ℕ} → aboard ≡ load d [] m → aboard ≤ 281474976710656 → Laden v d t l n 0 aboard 0
    laden-none e h = record { is = e; most = omega arith; saw = λ y. has-none y; ok = below_none stop }

    pub laden-all : {i aboard seen : ℕ} → Laden v d t l n i aboard seen → i ≡ n → true ≡ load_kept v d m
    laden-all p e = sym (rw e at p.ok) ∙ stops-told

    module _ {i aboard seen : ℕ} (p : Laden v d t l n i aboard seen) (h : i < n) where
      abbrev here-x : ℕ
      here-x = get_or l i 0

      pub laden-wrong : {b : Bool} → b ≡ has seen (mate here-x) → (b && not (eqb (get_or t (128 + here-x) 0) 0)) ≡ true → false ≡ load_kept v d m
      unfolding stop_kept in_order
      laden-wrong {b} e z =
          sym (below_fails n i stop h (ap (λ (q : Bool). not q && leg i) ((λ u. sym (e ∙ p.saw (mate here-x)) u && not (eqb (get_or t (128 + here-x) 0) 0)) ∙ z))) ∙ stops-told

      -- with what came and went
      module _ {b c : Bool} {up down : ℕ} (eb : b ≡ has seen (mate here-x)) (ec : c ≡ mem (mate here-x) m)
          (right : (b && not (eqb (get_or t (128 + here-x) 0) 0)) ≡ false)
          (eu : up ≡ get_or t (64 + here-x) 0 + cond c (get_or t (128 + here-x) 0) 0) (ed : down ≡ get_or t here-x 0 + cond b (get_or t (192 + here-x) 0) 0) where
        moved : load d (behind m (i + 1)) (drop (i + 1) m) + down ≡ aboard + up
        moved = (λ u. load d (behind m (i + 1)) (drop (i + 1) m) + ed u) ∙ walk-next i h b c (eb ∙ p.saw (mate here-x)) ec right ∙ (λ u. sym p.is u + sym eu u)

        up-low : up ≤ 8796093022208
        up-low = omega (arith, eu, low r (64 + here-x), low r (128 + here-x), cond-low c (get_or t (128 + here-x) 0))

        pub down-low : down ≤ aboard + up
        down-low = omega (arith, moved)

        now-is : aboard + up - down ≡ load d (behind m (i + 1)) (drop (i + 1) m)
        now-is = omega (arith, moved)

        leg-is : {now : ℕ} → now ≡ aboard + up - down → load_at d m i ≡ now
        leg-is e = ap (λ (k : ℕ). load d (behind m k) (drop k m)) (sym (add-one i)) ∙ sym now-is ∙ sym e

        pub laden-over : {now : ℕ} → now ≡ aboard + up - down → (ltb (i + 1) n && ltb v.capacity now) ≡ true → false ≡ load_kept v d m
        unfolding stop_kept leg_kept
        laden-over e z =
            sym (below_fails n i stop h (ap (λ (q : Bool). order i && not q) (ap (λ (k : ℕ). ltb (i + 1) n && ltb v.capacity k) (leg-is e) ∙ z) ∙ and-false (order i))) ∙ stops-told

        pub laden-next : {now : ℕ} → now ≡ aboard + up - down → (ltb (i + 1) n && ltb v.capacity now) ≡ false → Laden v d t l n (i + 1) now (with seen here-x)
        unfolding stop_kept leg_kept in_order
        laden-next {now} e z = record {
          is = e ∙ now-is;
          most = omega (arith, e, p.most, up-low);
          saw = λ y. has-with seen here-x y (near r i h) ∙ (λ u. eqb (sym (get_or-take n l i 0 h) u) y || p.saw y u) ∙ ap (λ (k : ℕ). mem y (behind m k)) (sym (add-one i));
          ok = below_next i stop p.ok
              ((λ u. not ((sym (eb ∙ p.saw (mate here-x)) ∙ refl) u && not (eqb (get_or t (128 + here-x) 0) 0)) && not (ltb (i + 1) n && ltb v.capacity (leg-is e u)))
              ∙ (λ u. not (right u) && not (z u)));
        }
