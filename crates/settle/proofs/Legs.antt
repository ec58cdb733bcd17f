-- The walks along arrays are the rules' recursions over the legs, and so are the tests that they serve.
use mathlib.Core.Path.{◌≡◌, refl, sym, ap, ◌∙◌, subst}
use Prim.Native.Nat.{ℕ, zero, suc, ◌+◌, ◌-◌, ◌<◌, ◌≤◌}
use mathlib.Core.Bool.{Bool, true, false, not, ◌&&◌, ◌||◌, and-true, or-true}
use mathlib.Core.List.{List}
use native.Mathlib.Numerals.{add-one}
use native.Mathlib.Omega.{arith}
use lib.Dec.{T, leb, eqb}
use borrow.Author.Tests.{eqb-true}
use lib.ListN.{get_or, take, drop, length, length-take}
use lib.Seq.{get_or-take}
use Rattle.laws.proofs.Logic.{decided, true→T}
use Rattle.laws.specs.Basic.{mem, Filled}
use Rattle.bits.specs.Places.{has}
use Rattle.rules.specs.Day.{Day}
use Rattle.rules.specs.declared.Van.{Van}
use Rattle.rules.specs.Leg.{legs_ahead, legs_behind}
use Rattle.rules.specs.Load.{room, reach_ahead, reach_back}
use Rattle.rules.specs.Plan.{Places}
use Rattle.rules.specs.Tests.{clean_fits, soiled_fits, meets_partner, has_support}
use Rattle.rules.specs.Along.{behind, load_at}
use Rattle.rules.specs.declared.Job.{Job}
use Rattle.rules.specs.declared.Job.TheVariants.{Clean, Soiled, Transfer}
use Rattle.rules.proofs.AlongLaws.{at_leg, ahead-next, ahead-end, back-first, back-next, reach-ahead-next, reach-ahead-end, reach-back-first, reach-back-next, mem-at}
use Rattle.walks.specs.Walks.{walk_up, walk_down, fits_at, met_behind, met_ahead, nobody, rides_up, rides_down, from_start, to_end}
use Rattle.walks.specs.declared.Partner.{Partner}
use Rattle.along.specs.Sets.{places_in}
use Rattle.settle.specs.declared.strike.Pass.{Pass}
use Rattle.settle.specs.Round.{ride_of, partner_at, load_rides, load_leaves, pair_leaves}

pub and-swap : (a b c e : Bool) → ((a && b) && (c && e)) ≡ ((a && c) && (b && e))
and-swap true true c e = refl
and-swap true false true e = refl
and-swap true false false e = refl
and-swap false b c e = refl

-- ---- a walk is any recursion with its steps

up_is : (f g : ℕ → Bool) (b : Bool) (n : ℕ) (u : ℕ → Bool) → (0 < n → u 0 ≡ (f 0 && (g 0 || b)))
    → ((i : ℕ) → suc i < n → u (suc i) ≡ (f (suc i) && (g (suc i) || u i)))
    → (i : ℕ) → i < n → walk_up f g b (suc i) ≡ u i
unfolding walk_up
up_is f g b n u e s zero h = sym (e h)
up_is f g b n u e s (suc i) h = ap (λ (t : Bool). f (suc i) && (g (suc i) || t)) (up_is f g b n u e s i (omega arith)) ∙ sym (s i h)

down_is : (f g : ℕ → Bool) (b : Bool) (n : ℕ) (u : ℕ → Bool) → u n ≡ b → ((i : ℕ) → i < n → u i ≡ (f i && (g i || u (suc i)))) → (k i : ℕ) → i + k ≡ n
    → walk_down f g b i k ≡ u i
unfolding walk_down
down_is f g b n u e s zero i h = let q : i ≡ n = omega arith in sym (ap u q ∙ e)
down_is f g b n u e s (suc k) i h = ap (λ (t : Bool). f i && (g i || t)) (down_is f g b n u e s k (suc i) (omega arith)) ∙ sym (s i (omega arith))

-- ---- a day, a route of n stops in l, and its H

module _ (pass : Pass) (d : Day) (l h : List ℕ) (two : 2 ≤ pass.stops) (fits : pass.stops ≤ length l)
    (loads : Filled 64 (load_at d (take pass.stops l)) 0 (pass.stops - 1) h) where
  abbrev v : Van
  v = pass.van

  abbrev n : ℕ
  n = pass.stops

  abbrev m : List ℕ
  m = take n l

  abbrev cap : ℕ
  cap = v.capacity

  size : length m ≡ n
  size = simp length-take (omega arith)

  room_at : (w i : ℕ) → i < n - 1 → at_leg (room v d w) m i ≡ leb (get_or h i 0 + w) cap
  room_at w i k = ap (λ (x : ℕ). leb (x + w) cap) (sym (loads.at i k))

  -- leg by leg to the first, or to the last
  clean_is : (w i : ℕ) → i < n - 1 → from_start h (ride_of pass w) i ≡ at_leg (legs_behind (room v d w)) m i
  unfolding from_start
  clean_is w i k = rw (add-one i) (up_is (fits_at h (ride_of pass w)) nobody true (n - 1) (at_leg (legs_behind (room v d w)) m)
      (λ j. back-first (room v d w) m ∙ room_at w 0 j ∙ sym (and-true (leb (get_or h 0 0 + w) cap)))
      (λ j g. back-next (room v d w) m j (omega (arith, size)) ∙ ap (λ (b : Bool). b && at_leg (legs_behind (room v d w)) m j) (room_at w (suc j) g))
      i k)

  soiled-is : (w i : ℕ) → i < n - 1 → to_end h (ride_of pass w) i ≡ at_leg (legs_ahead (room v d w)) m i
  unfolding to_end
  soiled-is w i k = down_is (fits_at h (ride_of pass w)) nobody true (n - 1) (at_leg (legs_ahead (room v d w)) m)
      (ahead-end (room v d w) m (n - 1) (omega (arith, size)))
      (λ j g. ahead-next (room v d w) m j (omega (arith, size)) ∙ ap (λ (b : Bool). b && at_leg (legs_ahead (room v d w)) m (suc j)) (room_at w j g))
      (n - 1 - i) i (omega arith)

  -- a partner is met where g holds of the leg's stops
  back_is : (g : ℕ → ℕ → Bool) (w : ℕ) (y : Partner) → ((i : ℕ) → i < n - 1 → g (get_or m i 0) (get_or m (suc i) 0) ≡ met_behind l y i)
      → (i : ℕ) → i < n - 1 → rides_up l h (ride_of pass w) y i ≡ at_leg (reach_back v d g w) m i
  unfolding rides_up
  back_is g w y e i k = rw (add-one i) (up_is (fits_at h (ride_of pass w)) (met_behind l y) false (n - 1) (at_leg (reach_back v d g w) m)
      (λ j. reach-back-first v d g w m (omega (arith, size)) ∙ (λ u. room_at w 0 j u && (e 0 j u || false)))
      (λ j q. reach-back-next v d g w m j (omega (arith, size)) ∙ (λ u. room_at w (suc j) q u && (e (suc j) q u || at_leg (reach_back v d g w) m j)))
      i k)

  ahead-is : (g : ℕ → ℕ → Bool) (w : ℕ) (y : Partner) → ((i : ℕ) → i < n - 1 → g (get_or m i 0) (get_or m (suc i) 0) ≡ met_ahead l y i)
      → (i : ℕ) → i < n - 1 → rides_down l h (ride_of pass w) y i ≡ at_leg (reach_ahead v d g w) m i
  unfolding rides_down
  ahead-is g w y e i k = down_is (fits_at h (ride_of pass w)) (met_ahead l y) false (n - 1) (at_leg (reach_ahead v d g w) m)
      (reach-ahead-end v d g w m (n - 1) (omega (arith, size)))
      (λ j q. reach-ahead-next v d g w m j (omega (arith, size)) ∙ (λ u. room_at w j q u && (e j q u || at_leg (reach_ahead v d g w) m (suc j))))
      (n - 1 - i) i (omega arith)

  -- ---- the two tests of a transfer's end are one walk: a placed partner has no places, and one off the route is at no stop

  module _ (old : List ℕ) (off : (y q : ℕ) → T (places_in old y q) → T (not (mem y m))) where
    abbrev o : Places
    o = places_in old

    shut : (y q : ℕ) → mem y m ≡ true → has (get_or old y 0) q ≡ false
    shut y q e = decided (has (get_or old y 0) q) (λ t. absurd (subst (λ (b : Bool). T (not b)) e (off y q (true→T _ t)))) (λ t. t)

    away : (y i : ℕ) → mem y m ≡ false → i < n → eqb (get_or m i 0) y ≡ false
    away y i e k = decided (eqb (get_or m i 0) y)
        (λ t. absurd (subst (λ (b : Bool). T b) (ap (λ (x : ℕ). mem x m) (eqb-true (get_or m i 0) y t) ∙ e) (mem-at m i (omega (arith, size))))) (λ t. t)

    or-none : (a b : Bool) → b ≡ false → a ≡ (a || b)
    or-none true b e = refl
    or-none false b e = sym e

    none_or : (a b : Bool) → a ≡ false → b ≡ (a || b)
    none_or a b e = ap (λ (c : Bool). c || b) (sym e)

    halves : (x placed u f g : Bool) → (placed ≡ true → u ≡ f) → (placed ≡ false → u ≡ g)
        → (not x || u) ≡ ((not x || not placed || f) && (not x || placed || g))
    halves true true u f g p q = p refl ∙ sym (and-true f)
    halves true false u f g p q = q refl
    halves false true u f g p q = refl
    halves false false u f g p q = refl

    -- the rules' halves of a transfer's tests: it begins at x, it ends at x
    abbrev meet_b : ℕ → ℕ → ℕ → ℕ → ℕ → Bool
    meet_b x a b w i = not (eqb a x) || not (mem b m) || at_leg (reach_ahead v d (λ p k. eqb k b) w) m i

    abbrev hold_b : ℕ → ℕ → ℕ → ℕ → ℕ → Bool
    hold_b x a b w i = not (eqb a x) || mem b m || at_leg (reach_ahead v d (λ p k. o b p) w) m i

    abbrev meet_a : ℕ → ℕ → ℕ → ℕ → ℕ → Bool
    meet_a x a b w i = not (eqb b x) || not (mem a m) || at_leg (reach_back v d (λ p k. eqb p a) w) m i

    abbrev hold_a : ℕ → ℕ → ℕ → ℕ → ℕ → Bool
    hold_a x a b w i = not (eqb b x) || mem a m || at_leg (reach_back v d (λ p k. o a p) w) m i

    second_is : (x a b w i : ℕ) → i < n - 1 → (not (eqb b x) || rides_up l h (ride_of pass w) (partner_at old a) i) ≡ (meet_a x a b w i && hold_a x a b w i)
    second_is x a b w i k = halves (eqb b x) (mem a m) _ _ _
        (λ e. back_is (λ p k. eqb p a) w (partner_at old a) (λ j q. ap (λ (t : ℕ). eqb t a) (get_or-take n l j 0 (omega arith)) ∙ or-none _ _ (shut a (get_or l j 0) e)) i k)
        (λ e. back_is (λ p k. o a p) w (partner_at old a) (λ j q. ap (λ (t : ℕ). has (get_or old a 0) t) (get_or-take n l j 0 (omega arith)) ∙ none_or _ _ (ap (λ (t : ℕ). eqb t a) (sym (get_or-take n l j 0 (omega arith))) ∙ away a j e (omega arith))) i k)

    first-is : (x a b w i : ℕ) → i < n - 1
        → (not (eqb a x) || rides_down l h (ride_of pass w) (partner_at old b) i) ≡ (meet_b x a b w i && hold_b x a b w i)
    first-is x a b w i k = halves (eqb a x) (mem b m) _ _ _
        (λ e. ahead-is (λ p k. eqb k b) w (partner_at old b) (λ j q. ap (λ (t : ℕ). eqb t b) (next j q) ∙ or-none _ _ (shut b (get_or l j 0) e)) i k)
        (λ e. ahead-is (λ p k. o b p) w (partner_at old b) (λ j q. ap (λ (t : ℕ). has (get_or old b 0) t) (get_or-take n l j 0 (omega arith)) ∙ none_or _ _ (ap (λ (t : ℕ). eqb t b) (sym (next j q)) ∙ away b (suc j) e (omega arith))) i k)
      where
        next : (j : ℕ) → j < n - 1 → get_or m (suc j) 0 ≡ get_or l (j + 1) 0
        next j q = rw (add-one j) (get_or-take n l (suc j) 0 (omega arith))

    -- what a job leaves, from arrays: the rules' two tests of a transfer, and those of a clean and of a soiled load
    pub pair_is : (x i : ℕ) → i < n - 1 → (j : Job) → pair_leaves old l h pass j x i
        ≡ (meets_partner v d m x (behind m (suc i)) (drop (suc i) m) j && has_support v d m o x (behind m (suc i)) (drop (suc i) m) j)
    unfolding pair_leaves
    pair_is x i k (Clean a w) = refl
    pair_is x i k (Soiled a w) = refl
    pair_is x i k (Transfer a b w) =
        (λ u. first-is x a b w i k u && second_is x a b w i k u) ∙ and-swap (meet_b x a b w i) (hold_b x a b w i) (meet_a x a b w i) (hold_a x a b w i)

  pub load_is : (x i : ℕ) → i < n - 1 → (j : Job) → load_leaves h pass j x i
      ≡ (clean_fits v d x (behind m (suc i)) (drop (suc i) m) j && soiled_fits v d x (behind m (suc i)) (drop (suc i) m) j)
  unfolding load_rides
  load_is x i k (Clean a w) = (λ u. not (eqb a x) || clean_is w i k u) ∙ sym (and-true _)
  load_is x i k (Soiled a w) = λ u. not (eqb a x) || soiled-is w i k u
  load_is x i k (Transfer a b w) = or-true (not (eqb a x))
