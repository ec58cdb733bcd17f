-- A round over the words is the rules' round.
use mathlib.Core.Path.{◌≡◌, refl, sym, ap, ◌∙◌, subst}
use Prim.Native.Nat.{ℕ, suc, ◌-◌, ◌<◌, ◌≤◌}
use mathlib.Core.Bool.{Bool, true, false, not, ◌&&◌, and-true, and_comm, and_assoc}
use mathlib.Core.List.{List, [], ◌∷◌}
use native.Mathlib.Numerals.{add-one}
use native.Mathlib.Omega.{arith}
use lib.Dec.{T}
use lib.IntN.{ℤ, pos}
use lib.ListN.{get_or, take, drop, length, length-take}
use lib.Seq.{get_or-take}
use Rattle.laws.proofs.Logic.{decided, T-ext, true→T, and_i, and_r}
use Rattle.laws.specs.Basic.{mem, all, tab, Filled}
use Rattle.laws.proofs.Below.{below-same, below-tab}
use Rattle.rules.specs.Day.{Day}
use Rattle.rules.specs.declared.Van.{Van}
use Rattle.rules.specs.Leg.{on_leg, leg_stops}
use Rattle.rules.specs.Plan.{Places}
use Rattle.rules.specs.Rounds.{Distinct}
use Rattle.rules.specs.Tests.{clean_fits, soiled_fits, meets_partner, has_support, window, short, clean, soiled, partner_placed, neither_placed, clean_before, stays}
use Rattle.rules.specs.Settle.{round}
use Rattle.rules.specs.Time.{driven}
use Rattle.rules.specs.Along.{behind, last_at, load_at}
use Rattle.rules.specs.declared.Job.{Job}
use Rattle.rules.proofs.AlongLaws.{at_leg, behind-take, window-at, short-at, on-leg, leg-index}
use Rattle.rules.proofs.Twice.{restays}
use Rattle.rules.proofs.Entries.{stays-e, partner_placed-in, neither_placed-in}
use Rattle.rules.proofs.Left.{round-less, round-leg, round-left}
use Rattle.along.proofs.SpotLaws.{node-low}
use Rattle.along.specs.Sets.{places_in, sets_of}
use Rattle.along.proofs.SetLaws.{sets-ext}
use Rattle.settle.specs.declared.strike.Pass.{Pass}
use Rattle.gaps.specs.Gaps.{fits_in, stands_at}
use Rattle.settle.specs.Round.{Kepts, load_leaves, pair_leaves, mixed_leaves, jobs_leave}
use Rattle.settle.proofs.RoundLaws.{place_left}
use Rattle.settle.proofs.Legs.{and-swap, pair_is, load_is}

-- ---- tests of a list of jobs

all_both : {A : Type 0} (f g : A → Bool) (l : List A) → all (λ j. f j && g j) l ≡ (all f l && all g l)
all_both f g [] = refl
all_both f g (x ∷ l) = ap (λ (b : Bool). (f x && g x) && b) (all_both f g l) ∙ and-swap (f x) (g x) (all f l) (all g l)

-- ---- what the arrays say of a place is what the rules say

module _ (pass : Pass) (d : Day) (g : ℕ → Job) (jobs : ℕ) (told : d.jobs ≡ tab jobs g) (l : List ℕ) (long : length l ≡ 64) (two : 2 ≤ pass.stops)
    (most : pass.stops ≤ 64) (small : d.n ≤ 64) (nodes : Distinct d.n (take pass.stops l)) (h : List ℕ)
    (loads : Filled 64 (load_at d (take pass.stops l)) 0 (pass.stops - 1) h) where
  abbrev v : Van
  v = pass.van

  abbrev n : ℕ
  n = pass.stops

  abbrev m : List ℕ
  m = take n l

  size : length m ≡ n
  size = simp length-take (omega arith)

  module _ (old : List ℕ) (off : (y q : ℕ) → T (places_in old y q) → T (not (mem y m))) (leg : (y q : ℕ) → T (places_in old y q) → T (mem q (leg_stops m))) where
    abbrev o : Places
    o = places_in old

    -- ---- the tests of all jobs

    module _ (x i : ℕ) (k : i < n - 1) where
      abbrev C : Job → Bool
      C = clean_fits v d x (behind m (suc i)) (drop (suc i) m)

      abbrev S : Job → Bool
      S = soiled_fits v d x (behind m (suc i)) (drop (suc i) m)

      abbrev P : Job → Bool
      P = meets_partner v d m x (behind m (suc i)) (drop (suc i) m)

      abbrev N : Job → Bool
      N = has_support v d m o x (behind m (suc i)) (drop (suc i) m)

      jobs-is : (f : Job → ℕ → ℕ → Bool) (r : Job → Bool) → ((j : Job) → f j x i ≡ r j) → jobs_leave f g jobs x i ≡ all r d.jobs
      unfolding jobs_leave
      jobs-is f r e = below-same jobs _ (λ q. r (g q)) (λ q w. e (g q)) ∙ below-tab r jobs g ∙ ap (all r) (sym told)

      pairs_is : jobs_leave (pair_leaves old l h pass) g jobs x i ≡ (at_leg (partner_placed v d m o x) m i && at_leg (neither_placed v d m o x) m i)
      pairs_is = jobs-is _ (λ j. P j && N j) (pair_is pass d l h two (omega arith) loads old off x i k) ∙ all_both P N d.jobs

      loads-is : jobs_leave (load_leaves h pass) g jobs x i ≡ (at_leg (clean v d m o x) m i && at_leg (soiled v d m o x) m i)
      loads-is = jobs-is _ (λ j. C j && S j) (load_is pass d l h two (omega arith) loads x i k) ∙ all_both C S d.jobs

    -- ---- words that keep what passes f are the words of the rules' round, where f tells of each open place whether it stays

    abbrev Tells : (ℕ → ℕ → Bool) → Type 0
    Tells f = (x i : ℕ) → i < n - 1 → T (o x (get_or m i 0)) → f x i ≡ at_leg (stays v d m o x) m i

    left-places : (f : ℕ → ℕ → Bool) → Tells f → (new : List ℕ) → Kepts l (n - 1) f old new → (x q : ℕ) → places_in new x q ≡ round v d m o x q
    left-places f tells new kept x q = T-ext (places_in new x q) (round v d m o x q) there' back'
      where
        is : (i : ℕ) → i < n - 1 → get_or m i 0 ≡ q → T (o x q) → f x i ≡ on_leg (stays v d m o x) q m
        is i k e t =
            tells x i k (subst (λ (p : ℕ). T (o x p)) (sym e) t) ∙ sym (on-leg (stays v d m o x) m nodes i (omega (arith, size)))
            ∙ ap (λ (p : ℕ). on_leg (stays v d m o x) p m) e

        there' : T (places_in new x q) → T (round v d m o x q)
        there' t =
            let u = ((kept.at x).at q).0 t in
            let a = leg-index q m (leg x q u.0) in
            let k : a.0 < n - 1 = omega (arith, a.1, size) in
            round-left v d m o x q u.0
            (subst (λ (b : Bool). T b) (is a.0 k a.2 u.0) (u.1 a.0 (omega arith) k (sym (get_or-take n l a.0 0 (omega arith)) ∙ a.2)))

        back' : T (round v d m o x q) → T (places_in new x q)
        back' t =
            let w = round-less v d m o x q t in
            ((kept.at x).at q).1 (w, λ i a b c. subst (λ (y : Bool). T y) (sym (is i b (get_or-take n l i 0 (omega arith) ∙ c) w)) (round-leg v d m o x q t))

    -- no leg is named past 63
    far : (p : ℕ) → T (mem p (leg_stops m)) → p < 64
    far p t = let a = leg-index p m t in omega (arith, a.2, node-low nodes a.0 (omega (arith, a.1)))

    past-legs : (x p : ℕ) → 64 ≤ p → round v d m o x p ≡ false
    past-legs x p k = decided (round v d m o x p) (λ t. absurd (omega (arith, far p (leg x p (round-less v d m o x p (true→T _ t)))))) (λ t. t)

    left-sets : (f : ℕ → ℕ → Bool) → Tells f → (new : List ℕ) → Kepts l (n - 1) f old new → new ≡ sets_of (round v d m o)
    left-sets f tells new kept = sets-ext new (round v d m o) kept.long (left-places f tells new kept) past-legs

    -- ---- the first round: all tests

    module _ (z : List ℤ) (lasts : Filled 64 (last_at d m) (pos 0) n z) where
      stands-is : (x i : ℕ) → i < n - 1 → stands_at d v.limit l z (driven d m) x i ≡ (at_leg (window v d m o x) m i && at_leg (short v d m o x) m i)
      unfolding fits_in
      stands-is x i k =
          rw (add-one i, lasts.at (suc i) (omega arith), ← behind-take l n i (omega arith), ← get_or-take n l i 0 (omega arith), ← get_or-take n l (suc i) 0 (omega arith))
          (λ u. sym (window-at v d m o x m i (omega (arith, size))) u && sym (short-at v d m o x m i (omega (arith, size))) u)

      seven : (a b c s p q e : Bool) → ((((p && q) && e) && (a && b)) && (c && s)) ≡ (a && (b && (c && (s && (p && (q && (e && true)))))))
      seven a b c s p q e =
          ap (λ (t : Bool). t && (c && s)) (and_comm ((p && q) && e) (a && b)) ∙ and_assoc (a && b) ((p && q) && e) (c && s)
          ∙ ap (λ (t : Bool). (a && b) && t) (and_comm ((p && q) && e) (c && s)) ∙ flat a b c s
        where
          flat : (a b c s : Bool) → ((a && b) && ((c && s) && ((p && q) && e))) ≡ (a && (b && (c && (s && (p && (q && (e && true)))))))
          flat true true true true = and_assoc p q e ∙ ap (λ (t : Bool). p && (q && t)) (sym (and-true e))
          flat true true true false = refl
          flat true true false s = refl
          flat true false c s = refl
          flat false b c s = refl

      place_is : Tells (place_left d g jobs pass old l z h (driven d m))
      unfolding stays
      place_is x i k t =
          (λ u. ((pairs_is x i k u && mixed_leaves d m x i) && stands-is x i k u) && loads-is x i k u)
          ∙ seven (at_leg (window v d m o x) m i) (at_leg (short v d m o x) m i) (at_leg (clean v d m o x) m i) (at_leg (soiled v d m o x) m i)
          (at_leg (partner_placed v d m o x) m i) (at_leg (neither_placed v d m o x) m i) (at_leg (clean_before v d m o x) m i)

      pub round-sets : (new : List ℕ) → Kepts l (n - 1) (place_left d g jobs pass old l z h (driven d m)) old new → new ≡ sets_of (round v d m o)
      round-sets = left-sets _ place_is

    -- ---- a further round: every test but 'neither placed' reads the route only, so what passed it passes it again, and the transfers are enough

    module _ (before : Places) (left : o ≡ round v d m before) where
      pair-stays : Tells (jobs_leave (pair_leaves old l h pass) g jobs)
      pair-stays x i k t = pairs_is x i k ∙ T-ext _ _ (λ w. restays v d m before o x (behind m (suc i)) (drop (suc i) m) was (and_r partner neither w))
          (λ w. let e = stays-e v d m o x (behind m (suc i)) (drop (suc i) m) w in
          and_i partner neither (e partner_placed partner_placed-in) (e neither_placed neither_placed-in))
        where
          partner : Bool
          partner = at_leg (partner_placed v d m o x) m i

          neither : Bool
          neither = at_leg (neither_placed v d m o x) m i

          was : T (at_leg (stays v d m before x) m i)
          was = subst (λ (b : Bool). T b) (on-leg (stays v d m before x) m nodes i (omega (arith, size)))
              (round-leg v d m before x (get_or m i 0) (subst (λ (c : Places). T (c x (get_or m i 0))) left t))

      pub again-sets : (new : List ℕ) → Kepts l (n - 1) (jobs_leave (pair_leaves old l h pass) g jobs) old new → new ≡ sets_of (round v d m o)
      again-sets = left-sets _ pair-stays
