-- A fleet as it is held: always eight states; the sheet tells how many are vans. One lent trail, cut into as many equal parts (02, No. 1).
use Rattle.std.specs.Prelude.{◌≡◌, Bool, cond, List, ℕ, ◌/◌, ◌<◌, length, get_or, ltb}
use Rattle.laws.specs.Basic.{tab, part_at}
use Rattle.rules.specs.Numbers.{most_vans}
use Rattle.board.specs.Board.{Board, board_of}
use Rattle.board.specs.Fresh.{no_state, fresh_state}
use Rattle.board.specs.Held.{Held}
use Rattle.board.specs.declared.State.{State}
use Rattle.fleet.specs.declared.Fleet.{Fleet}

-- a fleet by its states: eight, the j-th by its number
abbrev pub fleet_of : (ℕ → State) → Fleet
fleet_of f = record { vans = tab most_vans f }

-- the state of van j
unfoldable pub state_in : Fleet → ℕ → State
state_in f j = get_or f.vans j no_state

-- its board
abbrev pub board_in : Fleet → ℕ → Board
board_in f j = board_of (state_in f j)

-- every number 0
unfoldable pub no_fleet : Fleet
no_fleet = fleet_of (λ j. no_state)

-- one van, the state s; what is no van has every number 0
abbrev pub one_van : State → Fleet
one_van s = fleet_of (λ j. cond (ltb j 1) s no_state)

-- v fresh vans on a sheet of n nodes, of which van j may serve those of `may j`; what is no van has every number 0
unfoldable pub fresh_fleet : ℕ → ℕ → (ℕ → ℕ → Bool) → Fleet
fresh_fleet n v may = fleet_of (λ j. cond (ltb j v) (fresh_state n (may j)) no_state)

-- how many words of a trail each of v vans has
unfoldable pub share_of : ℕ → List ℕ → ℕ
share_of v t = length t / v

-- van j's part of the trail of v vans
unfoldable pub trail_in : ℕ → List ℕ → ℕ → List ℕ
trail_in v t j = part_at (share_of v t) t j

-- what the type of a fleet says and lists do not: eight states, each with arrays of 64 entries and words of 64 bits
pub record HeldAll (f : Fleet) : Type 0 where
  pub eight : length f.vans ≡ most_vans
  pub each : (j : ℕ) → j < most_vans → Held (state_in f j)
