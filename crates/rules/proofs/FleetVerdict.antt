-- Several vans: the fleet's verdict. With no place open, the routes of a fleet that is alive are a set of rounds of it, and each keeps the rules;
-- and on a triangle day a dead fleet has no set of rounds that keep them.
use Prim.Native.Nat.{ℕ, ◌<◌}
use mathlib.Core.Bool.{Bool, not, ◌||◌}
use mathlib.Core.List.{List, ◌∷◌}
use mathlib.Core.Logic.{⊎_elim}
use lib.Dec.{T, T_not, eqb}
use Rattle.rules.specs.Day.{Day, inner}
use Rattle.rules.specs.declared.Van.{Van}
use Rattle.rules.specs.Plan.{Places}
use Rattle.rules.specs.Rounds.{Inside, both, Belongs, keeps}
use Rattle.rules.specs.Verdict.{has_place, alive}
use Rattle.rules.specs.Asked.{Triangle, Proper}
use Rattle.rules.specs.Fleet.{Plans, BelongAll, KeepAll, served, alive_all, FormedAll}
use Rattle.rules.proofs.Around.{within-place}
use Rattle.rules.proofs.Complete.{no-gap-alive, round-alive}
use Rattle.laws.proofs.Logic.{T→true, true→T, and_i, and_l, and_r, or_l, or_r, or-e, tf, imp-i, imp-e, not-or-l, not-or-r}
use Rattle.laws.specs.Basic.{mem, all, any, In, all_below, any_below}
use Rattle.laws.proofs.Lists.{all_in, all-i, any_none, mem-rest}
use Rattle.laws.proofs.Below.{below_at, below-make}
use Rattle.laws.proofs.AnyLaws.{any-below-mono}

module _ (v : ℕ → Van) (d : Day) (f : Plans) where
  abbrev living : ℕ → Bool
  living i = alive (v i) d (f.plan i)

  abbrev anywhere : ℕ → Bool
  anywhere x = any_below f.vans (λ i. served (f.plan i) x)

  abbrev obeyed : ℕ → Bool
  obeyed x = not (f.must x) || anywhere x

  -- alive: each van is, and each ward that must go somewhere is placed or open in one
  pub alive-all-each : T (alive_all v d f) → (i : ℕ) → i < f.vans → T (alive (v i) d (f.plan i))
  unfolding alive_all
  alive-all-each h i l = true→T (living i) (below_at f.vans i living (T→true (all_below f.vans living) (and_l (all_below f.vans living) (all obeyed (inner d)) h)) l)

  pub alive-all-must : T (alive_all v d f) → (x : ℕ) → In x (inner d) → T (f.must x) → T (any_below f.vans (λ i. served (f.plan i) x))
  unfolding alive_all
  alive-all-must h x i = imp-e (f.must x) (anywhere x) (all_in obeyed (and_r (all_below f.vans living) (all obeyed (inner d)) h) i)

  alive-all-i : ((i : ℕ) → i < f.vans → T (living i)) → ((x : ℕ) → T (f.must x) → T (anywhere x)) → T (alive_all v d f)
  unfolding alive_all
  alive-all-i each must =
      and_i (all_below f.vans living) (all obeyed (inner d)) (true→T (all_below f.vans living) (below-make f.vans living (λ i l. T→true (living i) (each i l))))
      (all-i obeyed (inner d) (λ x i. imp-i (f.must x) (anywhere x) (must x)))

  -- with no place open, the routes of a fleet that is alive are a set of rounds of it, and each keeps the rules
  pub no-gap-alive-all : Proper d → FormedAll d f → ((x : ℕ) → T (f.must x) → In x (inner d)) → ((i x p : ℕ) → i < f.vans → T (not ((f.plan i).places x p)))
      → T (alive_all v d f) → KeepAll v d f.vans (λ i. (f.plan i).route) × BelongAll d f (λ i. (f.plan i).route)
  no-gap-alive-all proper form inside shut h = (
    λ i l. (van i l).0,
    record {
      each = λ i l. (van i l).1;
      apart = λ i j x l k ne n m. not-or-l (mem x (f.plan j).route) (has_place (f.plan j) x) (form.apart i j x l k ne n m);
      holds = λ x t. any-below-mono f.vans (λ i. served (f.plan i) x) (λ i. mem x (f.plan i).route) (placed-only x) (alive-all-must h x (inside x t) t);
    },
  )
    where
      van : (i : ℕ) → i < f.vans → T (keeps (v i) d (f.plan i).route) × Belongs d (f.plan i) (f.plan i).route
      van i l = no-gap-alive (v i) d (f.plan i) proper (form.each i l) (λ x p. shut i x p l) (alive-all-each h i l)

      -- a ward that is served is placed
      placed-only : (x i : ℕ) → i < f.vans → T (served (f.plan i) x) → T (mem x (f.plan i).route)
      placed-only x i l t = ⊎_elim (λ m. m) (λ o. absurd (any_none ((f.plan i).places x) (f.plan i).route (λ p. T_not ((f.plan i).places x p) (shut i x p l)) o))
          (or-e (mem x (f.plan i).route) (has_place (f.plan i) x) t)

-- a round visits only wards that are placed or open
inside-served : {o : Places} {rt R : List ℕ} (x : ℕ) → Inside o rt R → T (mem x R) → T (mem x rt || any (o x) rt)
inside-served {o} x (both {z = z} {r = r} {R = R} w) m =
    ⊎_elim (or_l (mem x (z ∷ r)) (any (o x) (z ∷ r)))
    (λ n. or_r (mem x (z ∷ r)) (any (o x) (z ∷ r)) (within-place x w (mem-rest x z R (not-or-l (eqb z x) (mem x r) n) m) (not-or-r (eqb z x) (mem x r) n)))
    (tf (mem x (z ∷ r)))

module _ (v : ℕ → Van) (d : Day) (f : Plans) (R : ℕ → List ℕ) (tri : Triangle d) where
  -- on a triangle day a fleet with a set of rounds that keep the rules is alive
  pub set-alive : BelongAll d f R → KeepAll v d f.vans R → T (alive_all v d f)
  set-alive b keep =
      alive-all-i v d f (λ i l. round-alive (v i) d (f.plan i) (R i) tri (b.each i l) (keep i l))
      (λ x t. any-below-mono f.vans (λ i. mem x (R i)) (λ i. served (f.plan i) x) (λ i l. inside-served x (b.each i l).inside) (b.holds x t))

  -- so a dead one has none
  pub dead-none-all : T (not (alive_all v d f)) → BelongAll d f R → KeepAll v d f.vans R → ⊥
  dead-none-all dead b keep = T_not (alive_all v d f) dead (set-alive b keep)
