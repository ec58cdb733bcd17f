-- One van's turn in a step in which all vans take part (02, No. 1), and what it asks of its caller.
use Rattle.std.specs.Prelude.{false, cond, true, List, ℕ, ◌≤◌, eqb, ◌≡◌, length}
use Rattle.rules.specs.Numbers.{kinds, most_vans}
use Rattle.rules.specs.declared.Step.{Step}
use Rattle.board.specs.Board.{board_of}
use Rattle.board.specs.declared.State.{State}
use Rattle.records.specs.Trail.{room_of}
use Rattle.trail.specs.Refusals.{place_refusal, exclude_refusal}
use Rattle.trail.specs.Steps.{Ran, place_step, exclude_step, level_step, back_step}
use Rattle.fleet.specs.Fleet.{state_in, trail_in}
use Rattle.fleet.specs.declared.Fleet.{Fleet}
use Rattle.turns.specs.Together.{RanAll, together}
use Rattle.board.specs.Form.{form_with}
use Rattle.board.specs.Held.{Held}
use Rattle.fleet.specs.Rows.{Figured}

-- van j's turn: "Placing a ward in one van excludes it from all others in the same step"; "Levels open and step back in all vans together"
unfoldable pub turn_of : ℕ → Step → ℕ → State → List ℕ → Ran
turn_of n step j s t =
    cond (eqb step.kind kinds.PLACE) (cond (eqb j step.van) (place_step n s t step.first step.second) (exclude_step n s t false step.second))
    (cond (eqb step.kind kinds.LEVEL) (level_step s t) (back_step n s t))

-- all turns taken
abbrev pub turns_of : ℕ → ℕ → Fleet → List ℕ → Step → RanAll
turns_of n v f t step = together v f t 0 (λ j. turn_of n step j (state_in f j) (trail_in v t j))

-- ---- what a turn asks

-- why van j's part in placing is refused, or 0
abbrev pub turn_bar : ℕ → Step → ℕ → State → List ℕ → ℕ
turn_bar n step j s t =
    cond (eqb j step.van) (place_refusal n (board_of s) s.records (room_of t) step.first step.second)
    (exclude_refusal n (board_of s) s.records (room_of t) false step.second)

-- what van j's turn asks of its caller: a state in form, its records within the room, and where a ward is placed that its part in it is not refused
pub record Turning (n : ℕ) (step : Step) (j : ℕ) (s : State) (t : List ℕ) : Type 0 where
  pub small : n ≤ 64
  pub held : Held s
  pub form : form_with n s (room_of t) ≡ true
  pub free : step.kind ≡ kinds.PLACE → turn_bar n step j s t ≡ 0

-- eight rows in each array
abbrev pub EightRows : List (List ℕ) → List (List ℕ) → List (List ℕ) → List (List ℕ) → Type 0
EightRows routes sets levels figures = (length routes ≡ most_vans) × (length sets ≡ most_vans) × (length levels ≡ most_vans) × Figured figures
