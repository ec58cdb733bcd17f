-- What settling leaves: the greatest part of the open places that a round strikes nothing of. It is two rounds, whatever the fuel.
use mathlib.Core.Path.{◌≡◌, subst}
use Prim.Native.Nat.{ℕ, zero, suc, ◌*◌, ◌≤◌}
use native.Mathlib.Omega.{arith}
use native.Mathlib.Nat.{mul-le-mul}
use mathlib.Core.Bool.{Bool, true, false, cond, not, ◌&&◌, ◌||◌}
use mathlib.Core.List.{List, [], ◌∷◌}
use mathlib.Core.Logic.{⊎_elim, ◌↔◌}
use lib.Dec.{T, not_T, eqb, eqb→eq, eqb_refl}
use Rattle.laws.proofs.Logic.{T-ext, tf, N→false, and_i, and_l, and_r, or_l, or_r, or-e}
use Rattle.laws.proofs.Lists.{each_in, mem-in, any-i}
use Rattle.laws.specs.Basic.{mem, hd, any, In}
use Rattle.rules.specs.Day.{Day, inner}
use Rattle.rules.specs.declared.Van.{Van}
use Rattle.rules.specs.Leg.{OfLeg, leg_from, on_leg}
use Rattle.rules.specs.Plan.{Places}
use Rattle.rules.specs.Rounds.{Distinct}
use Rattle.rules.specs.Tests.{Test, neither_placed, stays}
use Rattle.rules.specs.Settle.{round, strikes, settle_in, settle}
use Rattle.rules.specs.Asked.{OneEnd}
use Rattle.rules.proofs.Inner.{inner-low}
use Rattle.rules.proofs.Transfers.{supports-e, supports-i}
use Rattle.rules.proofs.Entries.{stays-e, stays-i}
use Rattle.rules.proofs.Left.{◌⊆◌, round-less, round-leg, round-left}
use Rattle.rules.proofs.Twice.{Rests, steady, paired, each-rests, third, calm}
use Rattle.rules.proofs.Ways.{reach-way, way-reach, back-way, way-from}

-- ---- more places open, more places stay

wider-leg : (f g : OfLeg) (p : ℕ) → ((A : List ℕ) (k : ℕ) (B : List ℕ) → T (f A (k ∷ B)) → T (g A (k ∷ B))) → (A B : List ℕ) → T (leg_from f p A B)
    → T (leg_from g p A B)
wider-leg f g p h A [] t = t
wider-leg f g p h A (k ∷ B) t = go (eqb (hd A) p) (wider-leg f g p h (k ∷ A) B) t
  where
    go : (c : Bool) → (T (leg_from f p (k ∷ A) B) → T (leg_from g p (k ∷ A) B)) → T (cond c (f A (k ∷ B)) (leg_from f p (k ∷ A) B))
        → T (cond c (g A (k ∷ B)) (leg_from g p (k ∷ A) B))
    go true i u = h A k B u
    go false i u = i u

module _ (v : Van) (d : Day) (rt : List ℕ) (o o' : Places) (h : o ⊆ o') where
  wider-neither : (x : ℕ) (A : List ℕ) (k : ℕ) (B : List ℕ) → T (neither_placed v d rt o x A (k ∷ B)) → T (neither_placed v d rt o' x A (k ∷ B))
  wider-neither x A k B t = let s = supports-e v d rt o x A (k ∷ B) t in supports-i v d rt o' x A (k ∷ B) (record {
    first = λ b w i n. let u = reach-way v d (λ p k. o b p) w A (k ∷ B) (s.first b w i n) in way-reach v d (λ p k. o' b p) w u.way (h b (hd u.A') u.holds);
    second = λ a w i n. let u = back-way v d (λ p k. o a p) w A k B (s.second a w i n) in way-from v d (λ p k. o' a p) w u.way (h a u.p' u.holds);
  })

  wider-stays : (x : ℕ) (A : List ℕ) (k : ℕ) (B : List ℕ) → T (stays v d rt o x A (k ∷ B)) → T (stays v d rt o' x A (k ∷ B))
  wider-stays x A k B t = stays-i v d rt o' x A (k ∷ B) (λ test i. one test (each_in i each-rests) (stays-e v d rt o x A (k ∷ B) t test i))
    where
      one : (t : Test) → Rests t → T (t v d rt o x A (k ∷ B)) → T (t v d rt o' x A (k ∷ B))
      one _ (steady s) = s v d rt o o' x A (k ∷ B)
      one _ paired = wider-neither x A k B

wider-on-leg : (f g : OfLeg) (p : ℕ) → ((A : List ℕ) (k : ℕ) (B : List ℕ) → T (f A (k ∷ B)) → T (g A (k ∷ B))) → (rt : List ℕ) → T (on_leg f p rt) → T (on_leg g p rt)
wider-on-leg f g p h [] t = t
wider-on-leg f g p h (z ∷ r) t = wider-leg f g p h (z ∷ []) r t

-- a round leaves more of more places
pub round-wider : (v : Van) (d : Day) (rt : List ℕ) (o o' : Places) → o ⊆ o' → round v d rt o ⊆ round v d rt o'
round-wider v d rt o o' h x p t = round-left v d rt o' x p (h x p (round-less v d rt o x p t))
    (wider-on-leg (stays v d rt o x) (stays v d rt o' x) p (wider-stays v d rt o o' h x) rt (round-leg v d rt o x p t))

-- o with the place p of x beside it
abbrev beside : Places → ℕ → ℕ → Places
beside o x p y q = o y q || eqb y x && eqb q p

beside_at : (o : Places) (x p : ℕ) → T (beside o x p x p)
beside_at o x p = or_r (o x p) (eqb x x && eqb p p) (and_i (eqb x x) (eqb p p) (eqb_refl x) (eqb_refl p))

beside-e : (o : Places) (x p : ℕ) (o' : Places) (y q : ℕ) → (T (o y q) → T (o' y q)) → T (o' x p) → T (beside o x p y q) → T (o' y q)
beside-e o x p o' y q f h t =
    ⊎_elim f (λ e. rw (eqb→eq y x (and_l (eqb y x) (eqb q p) e), eqb→eq q p (and_r (eqb y x) (eqb q p) e)) h) (or-e (o y q) (eqb y x && eqb q p) t)

-- ---- within what was open, and no smaller than any part at rest

settle_in-less : (f : ℕ) (v : Van) (d : Day) (rt : List ℕ) (o : Places) → settle_in f v d rt o ⊆ o
unfolding settle_in
settle_in-less zero v d rt o x p t = t
settle_in-less (suc f) v d rt o x p t = go (strikes v d rt o) (settle_in-less f v d rt (round v d rt o) x p) t
  where
    go : (b : Bool) → (T (settle_in f v d rt (round v d rt o) x p) → T (round v d rt o x p))
        → T ((elim b as (λ c. Places) [ true ↦ settle_in f v d rt (round v d rt o) | false ↦ o ]) x p) → T (o x p)
    go true k u = round-less v d rt o x p (k u)
    go false k u = u

settle_in-greatest : (f : ℕ) (v : Van) (d : Day) (rt : List ℕ) (q o : Places) → q ⊆ o → q ⊆ round v d rt q → q ⊆ settle_in f v d rt o
unfolding settle_in
settle_in-greatest zero v d rt q o h fix x p t = h x p t
settle_in-greatest (suc f) v d rt q o h fix x p t =
    go (strikes v d rt o) (settle_in-greatest f v d rt q (round v d rt o) (λ y k u. round-wider v d rt q o h y k (fix y k u)) fix x p t)
  where
    go : (b : Bool) → T (settle_in f v d rt (round v d rt o) x p) → T ((elim b as (λ c. Places) [ true ↦ settle_in f v d rt (round v d rt o) | false ↦ o ]) x p)
    go true u = u
    go false u = h x p t

-- settling opens nothing
pub settle-less : (v : Van) (d : Day) (rt : List ℕ) (o : Places) → settle v d rt o ⊆ o
settle-less v d rt o = settle_in-less (d.n * d.n) v d rt o

-- a part of the open places that a round strikes nothing of is left by settling
pub settle-greatest : (v : Van) (d : Day) (rt : List ℕ) (q o : Places) → q ⊆ o → q ⊆ round v d rt q → q ⊆ settle v d rt o
settle-greatest v d rt q o = settle_in-greatest (d.n * d.n) v d rt q o

-- ---- settling is two rounds

-- a round looks at every open place: they are inner nodes', in legs of the route
abbrev pub Seen : Day → List ℕ → Places → Type 0
Seen d rt o = (x p : ℕ) → T (o x p) → In x (inner d) × T (mem p rt)

-- no strike, nothing gone
calm-less : (v : Van) (d : Day) (rt : List ℕ) (o : Places) → Seen d rt o → (T (strikes v d rt o) → ⊥) → o ⊆ round v d rt o
unfolding strikes
calm-less v d rt o seen h x p t =
    ⊎_elim (λ u. u) (λ u. absurd (h (any-i (λ x. any (gone x) rt) (seen x p t).0
    (any-i (gone x) (mem-in p rt (seen x p t).1) (and_i (o x p) (not (round v d rt o x p)) t u)))))
    (tf (round v d rt o x p))
  where
    gone : ℕ → ℕ → Bool
    gone x p = o x p && not (round v d rt o x p)

module _ (v : Van) (d : Day) (one : OneEnd d.jobs) (rt : List ℕ) (g : Distinct d.n rt) (o : Places) (seen : Seen d rt o) where
  abbrev o₁ : Places
  o₁ = round v d rt o

  abbrev o₂ : Places
  o₂ = round v d rt (round v d rt o)

  two_in : (f : ℕ) → settle_in (suc (suc f)) v d rt o ⊆ o₂
  unfolding settle_in
  two_in f x p t = go (strikes v d rt o) (λ h. h) t
    where
      next : (b : Bool) → (T (strikes v d rt o₁) → T b) → T ((elim b as (λ c. Places) [ true ↦ settle_in f v d rt o₂ | false ↦ o₁ ]) x p) → T (o₂ x p)
      next true k u = settle_in-less f v d rt o₂ x p u
      next false k u = calm-less v d rt o₁ (λ y q s. seen y q (round-less v d rt o y q s)) k x p u

      go : (b : Bool) → (T (strikes v d rt o) → T b) → T ((elim b as (λ c. Places) [ true ↦ settle_in (suc f) v d rt o₁ | false ↦ o ]) x p) → T (o₂ x p)
      go true k u = next (strikes v d rt o₁) (λ h. h) u
      go false k u = let c = calm-less v d rt o seen k in round-wider v d rt o o₁ c x p (c x p u)

  two_out : (f : ℕ) → o₂ ⊆ settle_in f v d rt o
  two_out f = settle_in-greatest f v d rt o₂ o (λ x p u. round-less v d rt o x p (round-less v d rt o₁ x p u)) (third v d one rt g o)

  -- any fuel from 2 on gives the same
  pub fuel-enough : (f : ℕ) → 2 ≤ f → (x p : ℕ) → settle_in f v d rt o x p ≡ round v d rt (round v d rt o) x p
  fuel-enough zero h x p = absurd (omega arith)
  fuel-enough (suc zero) h x p = absurd (omega arith)
  fuel-enough (suc (suc f)) h x p = T-ext (settle_in (suc (suc f)) v d rt o x p) (o₂ x p) (two_in f x p) (two_out (suc (suc f)) x p)

  -- settling is two rounds
  pub settle-twice : (x p : ℕ) → settle v d rt o x p ≡ round v d rt (round v d rt o) x p
  settle-twice x p = T-ext (settle v d rt o x p) (o₂ x p)
      (λ t. subst (λ (b : Bool). T b) (fuel-enough (d.n * d.n) (fuel (settle-less v d rt o x p t)) x p) t) (two_out (d.n * d.n) x p)
    where
      fuel : T (o x p) → 2 ≤ d.n * d.n
      fuel t = let l = inner-low d (seen x p t).0 in let m : 2 ≤ d.n = omega arith in omega (arith, mul-le-mul m m)

  pub settle-fixed : settle v d rt o ⊆ round v d rt (settle v d rt o)
  settle-fixed x p t =
      round-wider v d rt o₂ (settle v d rt o) (two_out (d.n * d.n)) x p (third v d one rt g o x p (subst (λ (b : Bool). T b) (settle-twice x p) t))

  -- settling goes on until a round strikes nothing
  pub settle-rests : strikes v d rt (settle v d rt o) ≡ false
  settle-rests = N→false (strikes v d rt (settle v d rt o)) (not_T (strikes v d rt (settle v d rt o)) (calm v d rt (settle v d rt o) settle-fixed))

  -- settled again, nothing changes
  pub settle-settle : (x p : ℕ) → settle v d rt (settle v d rt o) x p ≡ settle v d rt o x p
  settle-settle x p = T-ext (settle v d rt (settle v d rt o) x p) (settle v d rt o x p) (settle-less v d rt (settle v d rt o) x p)
      (settle-greatest v d rt (settle v d rt o) (settle v d rt o) (λ y q t. t) settle-fixed x p)

  -- of more places settling leaves more
  pub settle-wider : (o' : Places) → o ⊆ o' → settle v d rt o ⊆ settle v d rt o'
  settle-wider o' h = settle-greatest v d rt (settle v d rt o) o' (λ x p t. h x p (settle-less v d rt o x p t)) settle-fixed

  -- what settling leaves is exactly what was open and passes the tests against what settling leaves
  pub settle-exact : (x p : ℕ) → T (settle v d rt o x p) ↔ (T (o x p) × T (on_leg (stays v d rt (settle v d rt o) x) p rt))
  settle-exact x p = (
    λ t. (settle-less v d rt o x p t, round-leg v d rt (settle v d rt o) x p (settle-fixed x p t)),
    λ t. settle-greatest v d rt both o (λ y q. beside-e left x p o y q (settle-less v d rt o y q) t.0)
        (λ y q. beside-e left x p (round v d rt both) y q (λ s. round-wider v d rt left both more y q (settle-fixed y q s))
        (round-left v d rt both x p (beside_at left x p) (stay t.1))) x p (beside_at left x p),
  )
    where
      left : Places
      left = settle v d rt o

      both : Places
      both = beside left x p

      more : left ⊆ both
      more y q = or_l (left y q) (eqb y x && eqb q p)

      stay : T (on_leg (stays v d rt left x) p rt) → T (on_leg (stays v d rt both x) p rt)
      stay = wider-on-leg (stays v d rt left x) (stays v d rt both x) p (wider-stays v d rt left both more x) rt
