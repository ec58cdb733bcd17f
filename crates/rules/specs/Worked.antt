-- Demand 3: runs, and the state that 01 works out from the start.
use Rattle.std.specs.Prelude.{ℕ, Bool, cond, not, ◌&&◌, List, [], ◌∷◌, T, eqb}
use Rattle.laws.specs.Basic.{mem, hd}
use Rattle.rules.specs.Day.{Day}
use Rattle.rules.specs.declared.Van.{Van}
use Rattle.rules.specs.Leg.{leg_stops}
use Rattle.rules.specs.Plan.{Plan, Places}
use Rattle.rules.specs.Steps.{placed, excluded, required}
use Rattle.rules.specs.Settle.{settled}

-- a run of placing, excluding, requiring and settling, none refused, from the plan a; X are the nodes excluded on the way
pub data PlanRun (v : Van) (d : Day) (a : Plan) : Plan → List ℕ → Type 0 where
  begin : PlanRun v d a a []
  place : {b : Plan} {X : List ℕ} (p x : ℕ) → PlanRun v d a b X → T (not (mem x b.route)) → T (b.places x p) → PlanRun v d a (placed p x b) X
  exclude : {b : Plan} {X : List ℕ} (x : ℕ) → PlanRun v d a b X → PlanRun v d a (excluded x b) (x ∷ X)
  require : {b : Plan} {X : List ℕ} (x : ℕ) → PlanRun v d a b X → PlanRun v d a (required x b) X
  settling : {b : Plan} {X : List ℕ} → PlanRun v d a b X → PlanRun v d a (settled v d b) X

-- the last stop of the starting route r₀ at or before q, on the route e; c is the last one before e
abbrev pub origin : List ℕ → ℕ → List ℕ → ℕ → ℕ
origin r₀ c [] q = c
origin r₀ c (k ∷ e) q = cond (eqb k q) (cond (mem k r₀) k c) (origin r₀ (cond (mem k r₀) k c) e q)

-- an unplaced node not excluded in the run is open in a leg exactly if the starting state had it open at the last starting stop at or
-- before that leg's stop; an excluded one is open nowhere
unfoldable pub worked_places : Plan → List ℕ → List ℕ → Places
worked_places a e X y q = mem q (leg_stops e) && not (mem y X) && not (mem y e) && a.places y (origin a.route (hd e) e q)

-- put the end route into the starting state a and mark the unplaced required nodes, those of m off the route
abbrev pub worked : Plan → List ℕ → List ℕ → (ℕ → Bool) → Plan
worked a e X m = record { route = e; places = worked_places a e X; marks = λ y. m y && not (mem y e) }
