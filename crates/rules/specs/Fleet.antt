-- Several vans over the same wards (02, No. 1): sets of one round per van, what each step makes of the plans, and the fleet's verdict.
use Rattle.std.specs.Prelude.{ℕ, ◌<◌, Bool, cond, not, ◌&&◌, ◌||◌, List, ◌≢◌, T, eqb}
use Rattle.rules.specs.Day.{Day, inner}
use Rattle.rules.specs.declared.Van.{Van}
use Rattle.rules.specs.Plan.{Plan}
use Rattle.rules.specs.Rounds.{Belongs, keeps}
use Rattle.rules.specs.Steps.{placed, excluded}
use Rattle.rules.specs.Settle.{settled}
use Rattle.rules.specs.Verdict.{alive, has_place}
use Rattle.rules.specs.Worked.{worked}
use Rattle.rules.specs.Asked.{Formed}
use Rattle.laws.specs.Basic.{mem, all, all_below, any_below}

-- how many vans there are, the plan of each by its number, and the wards that "must go somewhere"
pub record Plans : Type 0 where
  pub vans : ℕ
  pub plan : ℕ → Plan
  pub must : (ℕ → Bool)

-- "share no ward": of k rounds, R i that of van i, no two have a ward in common
abbrev pub ShareNone : Day → ℕ → (ℕ → List ℕ) → Type 0
ShareNone d k R = (i j x : ℕ) → i < k → j < k → i ≢ j → T (mem x (inner d)) → T (mem x (R i)) → T (not (mem x (R j)))

-- "sets of one round per van that share no ward and hold each newly marked one"
pub record BelongAll (d : Day) (f : Plans) (R : ℕ → List ℕ) : Type 0 where
  pub each : (i : ℕ) → i < f.vans → Belongs d (f.plan i) (R i)
  pub apart : ShareNone d f.vans R
  pub holds : (x : ℕ) → T (f.must x) → T (any_below f.vans (λ i. mem x (R i)))

-- each of k rounds keeps the rules, with its van
abbrev pub KeepAll : (ℕ → Van) → Day → ℕ → (ℕ → List ℕ) → Type 0
KeepAll v d k R = (i : ℕ) → i < k → T (keeps (v i) d (R i))

-- every ward in the round of one of k vans is one that the van may serve
abbrev pub MayAll : Day → ℕ → (ℕ → ℕ → Bool) → (ℕ → List ℕ) → Type 0
MayAll d k may R = (i x : ℕ) → i < k → T (mem x (inner d)) → T (mem x (R i)) → T (may i x)

-- a ward is placed or open
abbrev pub served : Plan → ℕ → Bool
served a x = mem x a.route || has_place a x

-- "the fleet is dead if a van is, or if a ward marked 'must go somewhere' is placed or open in none"; alive: not dead
unfoldable pub alive_all : (ℕ → Van) → Day → Plans → Bool
alive_all v d f =
    all_below f.vans (λ i. alive (v i) d (f.plan i))
    && all (λ x. not (f.must x) || any_below f.vans (λ i. served (f.plan i) x)) (inner d)

-- ---- the steps

-- a step that changes the plan of van i alone
abbrev pub in_van : ℕ → (Plan → Plan) → Plans → Plans
in_van i g f = record { vans = f.vans; plan = λ j. cond (eqb j i) (g (f.plan j)) (f.plan j); must = f.must }

-- "placing a ward in one van excludes it from all others in the same step"
abbrev pub placed_in : ℕ → ℕ → ℕ → Plans → Plans
placed_in i p x f = record { vans = f.vans; plan = λ j. cond (eqb j i) (placed p x (f.plan j)) (excluded x (f.plan j)); must = f.must }

-- step 8: x must go somewhere
abbrev pub obliged : ℕ → Plans → Plans
obliged x f = record { vans = f.vans; plan = f.plan; must = λ y. f.must y || eqb y x }

-- every van settled
abbrev pub settled_all : (ℕ → Van) → Day → Plans → Plans
settled_all v d f = record { vans = f.vans; plan = λ i. settled (v i) d (f.plan i); must = f.must }

-- demand 3, per van as 01 works it out: the end routes e, the excluded wards X, the marks m at the end; and the wards that must go somewhere then
abbrev pub worked_all : Plans → (ℕ → List ℕ) → (ℕ → List ℕ) → (ℕ → (ℕ → Bool)) → (ℕ → Bool) → Plans
worked_all f e X m must = record { vans = f.vans; plan = λ i. worked (f.plan i) (e i) (X i) (m i); must = must }

-- in form, as far as the rules see it: each plan is, and "no ward on a route is on or open in another van"
pub record FormedAll (d : Day) (f : Plans) : Type 0 where
  pub each : (i : ℕ) → i < f.vans → Formed d (f.plan i)
  pub apart : (i j x : ℕ) → i < f.vans → j < f.vans → i ≢ j → T (mem x (inner d)) → T (mem x (f.plan i).route) → T (not (served (f.plan j) x))
