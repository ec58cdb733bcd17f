-- The whole listing of a sheet as bytes, line by line, with the trail that is lent (01, One sheet and its listing; 02, No. 1).
use Rattle.std.specs.Prelude.{ℕ, zero, suc, ◌+◌, cond, List, [], ◌++◌, length, replicate, eqb, ltb}
use Rattle.laws.specs.Basic.{joined}
use Rattle.rules.specs.Numbers.{refusal}
use Rattle.sheet.specs.Section.{k_of, vans_of}
use Rattle.day.specs.Refuse.{open_refusal}
use Rattle.day.specs.Tell.{step_word}
use Rattle.board.specs.Board.{route_of}
use Rattle.listing.specs.Text.{route_line, refused_line, step_line}
use Rattle.fleet.specs.Fleet.{board_in}
use Rattle.fleet.specs.Sums.{records_all}
use Rattle.fleet.specs.declared.Fleet.{Fleet}
use Rattle.turns.specs.Together.{RanAll, Turned}
use Rattle.planner.specs.Face.{fresh_of, step_of, count_of, judge_of}
use Rattle.planner.specs.Promises.{Steps}

-- "step from 1, refusal or 0, open places in all, records, striking rounds, verdict": places and records of all vans, the fleet's verdict
unfoldable pub line_of : List ℕ → ℕ → Turned → List ℕ
line_of sheet i r =
    step_line (i + 1) r.answer (count_of sheet r.fleet).places (records_all (vans_of sheet) r.fleet) r.rounds (cond (judge_of sheet r.fleet).alive 1 0)

-- a fleet and a trail that accepted steps of the sheet lead to from the fresh fleet
pub record Reached (sheet : List ℕ) (f : Fleet) (t : List ℕ) : Type 0 where
  pub first : List ℕ
  pub steps : Steps sheet 0 (fresh_of sheet) first f t

-- the sheet's i-th step on a fleet and a trail
abbrev pub step_at : List ℕ → ℕ → Fleet × List ℕ → RanAll
step_at sheet i b = step_of sheet b.0 b.1 (step_word sheet i 0) (step_word sheet i 1) (step_word sheet i 2)

-- the fleet and the trail before the i-th step: the fresh fleet, then what each step of the sheet leaves
unfoldable pub come_to : List ℕ → List ℕ → ℕ → Fleet × List ℕ
come_to sheet t zero = (fresh_of sheet, t)
come_to sheet t (suc i) = ((step_at sheet i (come_to sheet t i)).0.fleet, (step_at sheet i (come_to sheet t i)).1)

-- the lines of the first k steps
unfoldable pub lines_of : List ℕ → List ℕ → ℕ → List ℕ
lines_of sheet t zero = []
lines_of sheet t (suc i) = lines_of sheet t i ++ line_of sheet i (step_at sheet i (come_to sheet t i)).0

-- "a route line per van", in the order of the vans
unfoldable pub routes_of : ℕ → Fleet → List ℕ
routes_of v f = joined v (λ j. route_line (route_of (board_in f j)))

-- the lines of all steps, then the routes at the end
unfoldable pub whole_of : List ℕ → List ℕ → List ℕ
whole_of sheet t = lines_of sheet t (k_of sheet) ++ routes_of (vans_of sheet) (come_to sheet t (k_of sheet)).0

-- "A refused sheet prints `refused` and the number, one line"
unfoldable pub listing_of : List ℕ → List ℕ → List ℕ
listing_of sheet t = cond (eqb (open_refusal sheet) 0) (whole_of sheet t) (refused_line (open_refusal sheet))

-- what the program prints with a trail of zeros: input above 60,396 bytes prints `refused 1`
unfoldable pub printed : List ℕ → List ℕ
printed input = cond (ltb 60396 (length input)) (refused_line refusal.SHORT) (listing_of input (replicate 64480 0))
