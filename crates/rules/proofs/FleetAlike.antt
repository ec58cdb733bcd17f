-- Several vans: runs that end alike in every van and in the wards that must go somewhere settle alike, in every van and in the fleet's verdict.
-- Seen from one van, a run of the fleet is a run of that van, with the wards placed elsewhere among the excluded ones.
use mathlib.Core.Path.{◌≡◌, refl, ap, ◌∙◌}
use Prim.Native.Nat.{ℕ, ◌<◌}
use mathlib.Core.Bool.{not, ◌&&◌, ◌||◌, Bool}
use mathlib.Core.List.{List}
use lib.Dec.{T}
use Rattle.rules.specs.Day.{Day, inner}
use Rattle.rules.specs.declared.Van.{Van}
use Rattle.rules.specs.Plan.{Plan}
use Rattle.rules.specs.Verdict.{alive}
use Rattle.rules.specs.Worked.{PlanRun}
use Rattle.rules.specs.Asked.{Triangle, OneEnd}
use Rattle.rules.specs.Fleet.{Plans, served, alive_all, settled_all, worked_all, FormedAll}
use Rattle.rules.proofs.Alike.{EndAlike, run-alike, runs-alike}
use Rattle.laws.specs.Basic.{mem, all, any, In, all_below, any_below}
use Rattle.laws.proofs.Lists.{all_same}
use Rattle.laws.proofs.Below.{below-same}
use Rattle.laws.proofs.AnyLaws.{any-below-same}

-- the fleet's verdict reads in each van the route, the open places and the van's verdict, and of the inner nodes those that must go somewhere
pub alive-all-same : (v : ℕ → Van) (d : Day) (f g : Plans) → f.vans ≡ g.vans → ((i : ℕ) → i < f.vans → (f.plan i).route ≡ (g.plan i).route)
    → ((i : ℕ) → i < f.vans → EndAlike (v i) d (f.plan i) (g.plan i)) → ((x : ℕ) → In x (inner d) → f.must x ≡ g.must x) → alive_all v d f ≡ alive_all v d g
unfolding alive_all
alive-all-same v d f g e route alike must =
    (λ u. below-same f.vans (λ i. alive (v i) d (f.plan i)) (λ i. alive (v i) d (g.plan i)) (λ i l. (alike i l).verdict) u
    && all_same (λ x. not (f.must x) || any_below f.vans (λ i. served (f.plan i) x)) (λ x. not (g.must x) || any_below f.vans (λ i. served (g.plan i) x)) (inner d)
    (λ x i w. not (must x i w) || any-below-same f.vans (λ i. served (f.plan i) x) (λ i. served (g.plan i) x) (served-same x) w) u)
    ∙ ap (λ (k : ℕ). all_below k (λ i. alive (v i) d (g.plan i)) && all (λ x. not (g.must x) || any_below k (λ i. served (g.plan i) x)) (inner d)) e
  where
    served-same : (x i : ℕ) → i < f.vans → served (f.plan i) x ≡ served (g.plan i) x
    served-same x i l = λ w. mem x (route i l w) || any (λ p. (alike i l).places x p w) (route i l w)

-- in each van the same open places and the same verdict, and the same verdict of the fleet
pub record EndAlikeAll (v : ℕ → Van) (d : Day) (f g : Plans) : Type 0 where
  pub each : (i : ℕ) → i < f.vans → EndAlike (v i) d (f.plan i) (g.plan i)
  pub verdict : alive_all v d f ≡ alive_all v d g

-- in each van of f a run, to the plan b i, with the nodes X i excluded on the way, those placed in another van among them
abbrev pub RunAll : (ℕ → Van) → Day → Plans → (ℕ → Plan) → (ℕ → List ℕ) → Type 0
RunAll v d f b X = (i : ℕ) → i < f.vans → PlanRun (v i) d (f.plan i) (b i) (X i)

-- the plans b at the end, with the wards m that must go somewhere, every van settled
abbrev pub end_all : (ℕ → Van) → Day → Plans → (ℕ → Plan) → (ℕ → Bool) → Plans
end_all v d f b m = settled_all v d (record { vans = f.vans; plan = b; must = m })

module _ (v : ℕ → Van) (d : Day) (tri : Triangle d) (one : OneEnd d.jobs) (f : Plans) (form : FormedAll d f) where
  -- the ends of the runs, settled, and the plans worked out, settled
  pub run-alike-all : (b : ℕ → Plan) (X : ℕ → List ℕ) (m : (ℕ → Bool)) → RunAll v d f b X
      → EndAlikeAll v d (end_all v d f b m) (settled_all v d (worked_all f (λ i. (b i).route) X (λ i. (b i).marks) m))
  run-alike-all b X m run = record { each = each; verdict = alive-all-same v d _ _ refl (λ i l. refl) each (λ x i. refl) }
    where
      each : (i : ℕ) → i < f.vans
          → EndAlike (v i) d ((end_all v d f b m).plan i) ((settled_all v d (worked_all f (λ i. (b i).route) X (λ i. (b i).marks) m)).plan i)
      each i l = run-alike (v i) d tri one (f.plan i) (form.each i l) (run i l)

  -- two families of runs with the same end routes, excluded nodes, marks on unplaced nodes, and wards that must go somewhere
  pub runs-alike-all : (b b' : ℕ → Plan) (X X' : ℕ → List ℕ) (m m' : ℕ → Bool) → RunAll v d f b X → RunAll v d f b' X'
      → ((i : ℕ) → i < f.vans → (b i).route ≡ (b' i).route) → ((i : ℕ) → i < f.vans → (y : ℕ) → mem y (X i) ≡ mem y (X' i))
      → ((i : ℕ) → i < f.vans → (y : ℕ) → T (not (mem y (b i).route)) → (b i).marks y ≡ (b' i).marks y) → ((x : ℕ) → In x (inner d) → m x ≡ m' x)
      → EndAlikeAll v d (end_all v d f b m) (end_all v d f b' m')
  runs-alike-all b b' X X' m m' run run' route shut marks must = record { each = each; verdict = alive-all-same v d _ _ refl route each must }
    where
      each : (i : ℕ) → i < f.vans → EndAlike (v i) d ((end_all v d f b m).plan i) ((end_all v d f b' m').plan i)
      each i l = runs-alike (v i) d tri one (f.plan i) (form.each i l) (run i l) (run' i l) (route i l) (shut i l) (marks i l)
