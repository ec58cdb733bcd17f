-- For contracts: what a call that is not refused knows, and a step done in rows.
use Rattle.std.specs.Prelude.{◌≡◌, Result, Bool, List, ℕ, ◌≤◌}
use Rattle.rules.specs.Numbers.{most_vans}
use Rattle.rules.specs.Verdict.{alive}
use Rattle.rules.specs.declared.Step.{Step}
use Rattle.sheet.specs.Section.{vans_of}
use Rattle.sheet.specs.declared.Layout.{Layout}
use Rattle.day.specs.Tell.{day_of, van_of}
use Rattle.van.specs.Act.{plan_in}
use Rattle.fleet.specs.Fleet.{state_in}
use Rattle.fleet.specs.Rows.{Figured}
use Rattle.fleet.specs.declared.Fleet.{Fleet}
use Rattle.turns.specs.Together.{ran_all}
use Rattle.rules.specs.declared.Refusal.{Refusal}
use Rattle.acts.specs.Act.{act_all}

-- one van to eight, two nodes to 64
pub record Sized (at : Layout) : Type 0 where
  pub some : 1 ≤ at.vans
  pub most : at.vans ≤ most_vans
  pub two : 2 ≤ at.nodes
  pub small : at.nodes ≤ 64

-- van j is alive
abbrev pub lives : List ℕ → Fleet → ℕ → Bool
lives sheet f j = alive (van_of sheet j) (day_of sheet) (plan_in (state_in f j))

-- a step of the fleet f was done in rows, or refused and the rows left: its answer, the rows and the trail are all that it gives
abbrev pub DidWhole : List ℕ → Fleet → List ℕ → Step → Result ℕ Refusal → List (List ℕ) → List (List ℕ) → List (List ℕ) → List (List ℕ) → List ℕ → Type 0
DidWhole sheet f t step o routes sets levels figures u =
    (act_all (van_of sheet) (day_of sheet) (vans_of sheet) f t step ≡ ran_all o routes sets levels figures u) × Figured figures
