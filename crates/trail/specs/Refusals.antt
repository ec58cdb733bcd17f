-- The refusal of each step, the first in 01's and 02's order, or 0. (The sheet's, the form and the kind are asked before, a misfit with stepping back.)
use Rattle.std.specs.Prelude.{Bool, not, ◌&&◌, ◌||◌, ℕ, eqb, ltb}
use Rattle.laws.specs.Basic.{or_else, unless}
use Rattle.bits.specs.Places.{has}
use Rattle.rules.specs.Numbers.{refusal}
use Rattle.rules.specs.Day.{is_inner}
use Rattle.board.specs.Board.{Board, on_route, set_of, open_at, leg_node}

-- steps 1 and 2, the room apart: x and p are nodes for it, x off the route, p on it, the place open
unfoldable pub place_shut : ℕ → Board → ℕ → ℕ → ℕ
place_shut n b p x =
    or_else (unless (is_inner n x && leg_node n p) refusal.NODE)
    (or_else (unless (not (on_route b x)) refusal.PLACED)
    (or_else (unless (on_route b p) refusal.UNPLACED)
    (unless (open_at b x p) refusal.SHUT)))

-- steps 1 and 2: and room for one record
unfoldable pub place_refusal : ℕ → Board → ℕ → ℕ → ℕ → ℕ → ℕ
place_refusal n b records room p x = or_else (place_shut n b p x) (unless (ltb records room) refusal.ROOM)

-- step 3: x a node for it, off the route, not owed, room for one record if something closes
unfoldable pub exclude_refusal : ℕ → Board → ℕ → ℕ → Bool → ℕ → ℕ
exclude_refusal n b records room owed x =
    or_else (unless (is_inner n x) refusal.NODE)
    (or_else (unless (not (on_route b x)) refusal.PLACED)
    (or_else (unless (not owed) refusal.OWED)
    (unless (eqb (set_of b x) 0 || ltb records room) refusal.ROOM)))

-- step 4: x a node for it, off the route, room for one record if it marks
unfoldable pub require_refusal : ℕ → Board → ℕ → ℕ → ℕ → ℕ
require_refusal n b records room x =
    or_else (unless (is_inner n x) refusal.NODE)
    (or_else (unless (not (on_route b x)) refusal.PLACED)
    (unless (has b.marks x || ltb records room) refusal.ROOM))

-- step 8: x a node for it, placed or not, room for one record if it marks
unfoldable pub oblige_refusal : ℕ → Board → ℕ → ℕ → ℕ → ℕ
oblige_refusal n b records room x = or_else (unless (is_inner n x) refusal.NODE) (unless (has b.must x || ltb records room) refusal.ROOM)
