-- Undoing: when a record fits, and the board before it; newest first (01, The trail; 02, No. 1).
use Rattle.std.specs.Prelude.{Bool, true, false, cond, not, ◌&&◌, List, ◌≡◌, ℕ, zero, suc, ◌-◌, ◌≤◌, ◌<◌, get_or, length, eqb}
use Rattle.bits.specs.Places.{has, without, within}
use Rattle.rules.specs.Day.{is_inner}
use Rattle.board.specs.Route.{index_of}
use Rattle.board.specs.Board.{Board, board, route_of, on_route, legs_of, set_of}
use Rattle.board.specs.Change.{put_set, unplaced, unmarked, unobliged}
use Rattle.records.specs.declared.undo.Undone as code
use Rattle.records.specs.Trail.{first_of, second_of, change, record_kind, record_node}

-- the second set strictly contains the first
unfoldable pub strictly : ℕ → ℕ → Bool
strictly v w = within v w && not (within w v)

-- the stop before x
unfoldable pub stop_before : Board → ℕ → ℕ
stop_before b x = get_or b.route (index_of x (route_of b) - 1) 0

-- set made smaller: the node is between 1 and n - 2, off the route, and the old set strictly contains the present one and names only legs
unfoldable pub fits_shrunk : ℕ → Board → ℕ → ℕ → Bool
fits_shrunk n b x w = (is_inner n x && not (on_route b x)) && (strictly (set_of b x) w && within w (legs_of b))

-- placed: the node is on the route, not an end, and the old set names only legs left once it is taken out, its predecessor among them
unfoldable pub fits_placed : ℕ → Board → ℕ → ℕ → Bool
fits_placed n b x w = (is_inner n x && on_route b x) && (within w (without (legs_of b) x) && has w (stop_before b x))

-- marked: the node is off the route and marked, second word 0
unfoldable pub fits_marked : Board → ℕ → ℕ → Bool
fits_marked b x w = not (on_route b x) && (has b.marks x && eqb w 0)

-- marked "must go somewhere": the node has that mark, second word 0
unfoldable pub fits_obliged : Board → ℕ → ℕ → Bool
fits_obliged b x w = has b.must x && eqb w 0

-- whether it fits, and the board after
abbrev pub Undone : Type 0
Undone = Bool × Board

-- what undoing has left in arrays, with what it answered
abbrev pub undid : code.Undone → List ℕ → List ℕ → Undone
undid u route sets = (u.fits, board route u.stops sets u.marks u.must)

-- the board c where the record fits, the board as it is where it does not
unfoldable pub undone : Bool → Board → Board → Undone
undone fits c b = cond fits (true, c) (false, b)

-- a record of a set made smaller, for node x with the second word w
abbrev pub undo_shrunk : ℕ → Board → ℕ → ℕ → Undone
undo_shrunk n b x w = undone (fits_shrunk n b x w) (put_set b x w) b

-- a record of a placing
abbrev pub undo_placed : ℕ → Board → ℕ → ℕ → Undone
undo_placed n b x w = undone (fits_placed n b x w) (unplaced b x w) b

-- a record of a mark
abbrev pub undo_marked : Board → ℕ → ℕ → Undone
undo_marked b x w = undone (fits_marked b x w) (unmarked b x) b

-- a record of a mark "must go somewhere"
abbrev pub undo_obliged : Board → ℕ → ℕ → Undone
undo_obliged b x w = undone (fits_obliged b x w) (unobliged b x) b

-- the record with these two words. No other kind fits
unfoldable pub undo_one : ℕ → Board → ℕ → ℕ → Undone
undo_one n b first w =
    cond (eqb (record_kind first) change.SHRINKING) (undo_shrunk n b (record_node first) w)
    (cond (eqb (record_kind first) change.PLACING) (undo_placed n b (record_node first) w)
    (cond (eqb (record_kind first) change.MARKING) (undo_marked b (record_node first) w)
    (cond (eqb (record_kind first) change.OBLIGING) (undo_obliged b (record_node first) w)
    (false, b))))

-- the k newest of so many records, newest first, each against the board after the newer ones are undone, as far as they fit
unfoldable pub undo_many : ℕ → ℕ → Board → ℕ → List ℕ → Undone
undo_many zero n b records t = (true, b)
undo_many (suc k) n b records t =
    let o = undo_one n b (first_of t (records - 1)) (second_of t (records - 1)) in
    cond o.0 (undo_many k n o.1 (records - 1) t) o

-- what reading a route asks: few stops, each a place of a word
abbrev pub Readable : ℕ → ℕ → List ℕ → Type 0
Readable n stops route = (n ≤ 64) × (stops ≤ 64) × (length route ≡ 64) × ((i : ℕ) → i < stops → get_or route i 0 < 64)
