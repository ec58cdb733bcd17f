-- An accepted step of a fleet, kind by kind: what each van did. For the theorems.
use Rattle.std.specs.Prelude.{◌≡◌, true, false, List, ◌≢◌, ℕ, ◌≤◌, ◌<◌, length}
use Rattle.rules.specs.Numbers.{kinds, most_vans}
use Rattle.rules.specs.Day.{Day}
use Rattle.rules.specs.declared.Van.{Van}
use Rattle.rules.specs.declared.Step.{Step}
use Rattle.trail.specs.Refusals.{place_shut}
use Rattle.trail.specs.Steps.{acted, level_step, back_step, oblige_step}
use Rattle.van.specs.Act.{act_of}
use Rattle.fleet.specs.Fleet.{state_in, board_in, trail_in}
use Rattle.fleet.specs.Form.{shares_none}
use Rattle.fleet.specs.declared.Fleet.{Fleet}
use Rattle.turns.specs.Turn.{turn_of}
use Rattle.bars.specs.Bars.{claimed}
use Rattle.acts.specs.Act.{of_one_van}

-- no van but i changed
pub record OthersStay (v i : ℕ) (f : Fleet) (t : List ℕ) (f' : Fleet) (t' : List ℕ) : Type 0 where
  pub state : (j : ℕ) → j < v → j ≢ i → state_in f' j ≡ state_in f j
  pub trail : (j : ℕ) → j < v → j ≢ i → trail_in v t' j ≡ trail_in v t j

-- what is no van stays, and the trail keeps its length
pub record RestStays (v : ℕ) (f : Fleet) (t : List ℕ) (f' : Fleet) (t' : List ℕ) : Type 0 where
  pub eight : length f'.vans ≡ most_vans
  pub beyond : (j : ℕ) → v ≤ j → j < most_vans → state_in f' j ≡ state_in f j
  pub long : length t' ≡ length t

-- what an accepted step of k rounds did
pub data MovedAll (vans : ℕ → Van) (d : Day) (v : ℕ) (f : Fleet) (t : List ℕ) (step : Step) (k : ℕ) (f' : Fleet) (t' : List ℕ) : Type 0 where
  placed : step.kind ≡ kinds.PLACE → k ≡ 0 → step.van < v → place_shut d.n (board_in f step.van) step.first step.second ≡ 0
      → claimed d v f step.van step.second ≡ false
      → ((j : ℕ) → j < v → turn_of d.n step j (state_in f j) (trail_in v t j) ≡ acted 0 0 (state_in f' j) (trail_in v t' j)) → MovedAll vans d v f t step k f' t'
  alone : of_one_van step.kind ≡ true → step.kind ≢ kinds.PLACE → step.van < v
      → act_of (vans step.van) d (state_in f step.van) (trail_in v t step.van) step.kind step.first step.second
      ≡ acted 0 k (state_in f' step.van) (trail_in v t' step.van)
      → OthersStay v step.van f t f' t' → MovedAll vans d v f t step k f' t'
  level : step.kind ≡ kinds.LEVEL → k ≡ 0 → ((j : ℕ) → j < v → level_step (state_in f j) (trail_in v t j) ≡ acted 0 0 (state_in f' j) (trail_in v t' j))
      → MovedAll vans d v f t step k f' t'
  back : step.kind ≡ kinds.BACK → k ≡ 0 → ((j : ℕ) → j < v → back_step d.n (state_in f j) (trail_in v t j) ≡ acted 0 0 (state_in f' j) (trail_in v t' j))
      → shares_none d.n v f' ≡ true → MovedAll vans d v f t step k f' t'
  obliged : step.kind ≡ kinds.OBLIGE → k ≡ 0 → oblige_step d.n (state_in f 0) (trail_in v t 0) step.first ≡ acted 0 0 (state_in f' 0) (trail_in v t' 0)
      → OthersStay v 0 f t f' t' → MovedAll vans d v f t step k f' t'
