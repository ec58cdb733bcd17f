-- What a fleet stands for, and what its listing sums.
use Rattle.std.specs.Prelude.{Bool, not, ◌||◌, ℕ}
use Rattle.laws.specs.Basic.{sum_below, all_below, any_below}
use Rattle.bits.specs.Places.{has}
use Rattle.rules.specs.Fleet.{Plans}
use Rattle.board.specs.Board.{places_of}
use Rattle.van.specs.Act.{plan_in}
use Rattle.fleet.specs.Fleet.{state_in, board_in}
use Rattle.fleet.specs.Form.{has_ward}
use Rattle.fleet.specs.declared.Fleet.{Fleet}

-- the plans of v vans, and the wards that must go somewhere
abbrev pub plans_in : ℕ → Fleet → Plans
plans_in v f = record { vans = v; plan = λ j. plan_in (state_in f j); must = has (state_in f 0).must }

-- the open places in all
unfoldable pub places_all : ℕ → Fleet → ℕ
places_all v f = sum_below v (λ j. places_of (state_in f j).sets 64)

-- the records in all
unfoldable pub records_all : ℕ → Fleet → ℕ
records_all v f = sum_below v (λ j. (state_in f j).records)

-- every ward that must go somewhere is on a route or open in some van
unfoldable pub all_served : ℕ → Fleet → Bool
all_served v f = all_below 64 (λ y. not (has (state_in f 0).must y) || any_below v (λ j. has_ward (board_in f j) y))
