-- When a state is in form, sentence by sentence (01, State; 02, No. 1).
use Rattle.std.specs.Prelude.{Bool, cond, not, ◌&&◌, ◌||◌, List, ℕ, ◌-◌, get_or, take, eqb, leb, ltb}
use Rattle.laws.specs.Basic.{all_below, mem}
use Rattle.bits.specs.Places.{has, within}
use Rattle.rules.specs.Day.{is_inner}
use Rattle.board.specs.Board.{Board, board_of, on_route, legs_of, set_of}
use Rattle.board.specs.declared.State.{State}

-- entry i of the route: a node below n that does not stand before it; unused entries are 0
unfoldable pub stop_ok : ℕ → ℕ → List ℕ → ℕ → Bool
stop_ok n stops route i = cond (ltb i stops) (ltb (get_or route i 0) n && not (mem (get_or route i 0) (take i route))) (eqb (get_or route i 0) 0)

-- sets only for nodes 1 to n - 2 off the route and only of present legs, all others empty
unfoldable pub set_ok : ℕ → Board → ℕ → Bool
set_ok n b y = cond (is_inner n y && not (on_route b y)) (within (set_of b y) (legs_of b)) (eqb (set_of b y) 0)

-- a set of nodes has y only if that is between 1 and n - 2
unfoldable pub only_inner : ℕ → ℕ → ℕ → Bool
only_inner n w y = not (has w y) || is_inner n y

-- marks only on 1 to n - 2
unfoldable pub mark_ok : ℕ → Board → ℕ → Bool
mark_ok n b y = only_inner n b.marks y

-- marks "must go somewhere" only on 1 to n - 2, on placed wards too
unfoldable pub must_ok : ℕ → Board → ℕ → Bool
must_ok n b y = only_inner n b.must y

-- route from 0 to n - 1; its stops, sets and marks, and the marks "must go somewhere"
unfoldable pub board_ok : ℕ → Board → Bool
board_ok n b =
    (leb 2 b.stops && leb b.stops n)
    && ((eqb (get_or b.route 0 0) 0 && eqb (get_or b.route (b.stops - 1) 0) (n - 1))
    && (all_below 64 (stop_ok n b.stops b.route) && all_below 64 (λ y. set_ok n b y && (mark_ok n b y && must_ok n b y))))

-- the counts not falling and not above the record count, unused ones 0
unfoldable pub level_ok : ℕ → ℕ → List ℕ → ℕ → Bool
level_ok depth records levels i = cond (ltb i depth) (leb (get_or levels i 0) records && leb (get_or levels (i - 1) 0) (get_or levels i 0)) (eqb (get_or levels i 0) 0)

-- levels at most 64
unfoldable pub levels_ok : ℕ → ℕ → List ℕ → Bool
levels_ok depth records levels = leb depth 64 && all_below 64 (level_ok depth records levels)

-- in form, where no trail is lent
unfoldable pub in_form : ℕ → State → Bool
in_form n s = board_ok n (board_of s) && levels_ok s.depth s.records s.levels

-- in form, where a trail of so much room is lent: records not above it
unfoldable pub form_with : ℕ → State → ℕ → Bool
form_with n s room = in_form n s && leb s.records room
