-- When a fleet is in form: each van is, and what 02 asks between them.
use Rattle.std.specs.Prelude.{Bool, cond, not, ◌&&◌, ◌||◌, List, ℕ, get_or, eqb, leb, ltb}
use Rattle.laws.specs.Basic.{all_below}
use Rattle.rules.specs.Numbers.{most_vans}
use Rattle.rules.specs.Day.{is_inner}
use Rattle.board.specs.Board.{Board, on_route, set_of}
use Rattle.board.specs.Form.{in_form}
use Rattle.board.specs.declared.State.{State}
use Rattle.records.specs.Trail.{room_of}
use Rattle.fleet.specs.Fleet.{state_in, board_in, trail_in}
use Rattle.fleet.specs.declared.Fleet.{Fleet}

-- y is on the van's route or open in it
unfoldable pub has_ward : Board → ℕ → Bool
has_ward b y = on_route b y || not (eqb (set_of b y) 0)

-- no ward on the route of the first is on or open in the second
unfoldable pub clear_of : ℕ → Board → Board → Bool
clear_of n a b = all_below 64 (λ y. not (is_inner n y && (on_route a y && has_ward b y)))

-- "no ward on a route is on or open in another van"
unfoldable pub shares_none : ℕ → ℕ → Fleet → Bool
shares_none n v f = all_below v (λ i. all_below v (λ j. eqb i j || clear_of n (board_in f i) (board_in f j)))

-- a van: in form, "equal numbers of levels", and the marks "must go somewhere" stand in the first van alone
unfoldable pub van_fits : ℕ → State → ℕ → Bool → Bool
van_fits n s depth first = in_form n s && (eqb s.depth depth && (first || eqb s.must 0))

-- van j, with as many levels as the first
abbrev pub van_ok : ℕ → Fleet → ℕ → Bool
van_ok n f j = van_fits n (state_in f j) (state_in f 0).depth (eqb j 0)

-- a state with every number 0
unfoldable pub idle : State → Bool
idle s =
    all_below 64 (λ i. eqb (get_or s.route i 0) 0 && (eqb (get_or s.sets i 0) 0 && eqb (get_or s.levels i 0) 0))
    && (eqb s.stops 0 && (eqb s.marks 0 && (eqb s.must 0 && (eqb s.depth 0 && eqb s.records 0))))

-- of the eight states, those behind the v vans are idle
abbrev pub others_idle : ℕ → Fleet → Bool
others_idle v f = all_below most_vans (λ j. ltb j v || idle (state_in f j))

-- in form, where no trail is lent: the vans and what is between them; what is no van is idle
unfoldable pub in_form_all : ℕ → ℕ → Fleet → Bool
in_form_all n v f = all_below most_vans (λ j. cond (ltb j v) (van_ok n f j) (idle (state_in f j))) && shares_none n v f

-- in form, where a trail is lent: no van's records above the room of its part
unfoldable pub form_with_all : ℕ → ℕ → Fleet → List ℕ → Bool
form_with_all n v f t = in_form_all n v f && all_below v (λ j. leb (state_in f j).records (room_of (trail_in v t j)))
