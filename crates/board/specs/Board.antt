-- A state as 01 and 02 list it, and the part of it that records speak of: route, place sets, marks and the marks "must go somewhere".
use Rattle.std.specs.Prelude.{Bool, List, ℕ, ◌+◌, ◌-◌, get_or, take, ltb}
use Rattle.std.specs.Int.Count.{ones}
use Rattle.laws.specs.Basic.{mem, sum_below}
use Rattle.bits.specs.Places.{has}
use Rattle.board.specs.Route.{word_of}
use Rattle.board.specs.declared.State.{State}
use Rattle.board.specs.declared.Figures.{Figures}

-- the part of a state that records speak of: route, place sets, marks, and the marks "must go somewhere"
pub record Board : Type 0 where
  pub route : List ℕ
  pub stops : ℕ
  pub sets : List ℕ
  pub marks : ℕ
  pub must : ℕ

-- a board by its parts
abbrev pub board : List ℕ → ℕ → List ℕ → ℕ → ℕ → Board
board route stops sets marks must = record { route = route; stops = stops; sets = sets; marks = marks; must = must }

-- a state by its parts
abbrev pub state_of : List ℕ → ℕ → List ℕ → ℕ → ℕ → List ℕ → ℕ → ℕ → State
state_of route stops sets marks must levels depth records =
    record { route = route; stops = stops; sets = sets; marks = marks; must = must; levels = levels; depth = depth; records = records }

-- the same from its arrays and its other numbers
abbrev pub state_with : List ℕ → List ℕ → List ℕ → Figures → State
state_with route sets levels f = state_of route f.stops sets f.marks f.must levels f.depth f.records

-- the board of a state
abbrev pub board_of : State → Board
board_of s = board s.route s.stops s.sets s.marks s.must

-- the state s with another board and record count; its levels stay
abbrev pub on_board : State → Board → ℕ → State
on_board s b k = state_of b.route b.stops b.sets b.marks b.must s.levels s.depth k

-- the route: the first entries of its array
unfoldable pub route_of : Board → List ℕ
route_of b = take b.stops b.route

-- whether x is on the route
unfoldable pub on_route : Board → ℕ → Bool
on_route b x = mem x (route_of b)

-- the legs of the route: a leg is named by the stop it leaves
unfoldable pub legs_of : Board → ℕ
legs_of b = word_of (b.stops - 1) b.route

-- the set of open places of x
unfoldable pub set_of : Board → ℕ → ℕ
set_of b x = get_or b.sets x 0

-- whether x is open in the leg that leaves p
unfoldable pub open_at : Board → ℕ → ℕ → Bool
open_at b x p = has (set_of b x) p

-- p is between 0 and n - 2
unfoldable pub leg_node : ℕ → ℕ → Bool
leg_node n p = ltb (p + 1) n

-- the open places of the first k nodes: for each the count of ones in its word
unfoldable pub places_of : List ℕ → ℕ → ℕ
places_of sets k = sum_below k (λ y. ones (get_or sets y 0))
