-- What a record stands for: a set made smaller, a node placed, a node marked, a node marked "must go somewhere"; and each undone.
use Rattle.std.specs.Prelude.{cond, map, ℕ, ◌+◌, ◌-◌, set}
use Rattle.bits.specs.Places.{has, with, without}
use Rattle.board.specs.Route.{index_of, insert_in, remove_in}
use Rattle.board.specs.Board.{Board, board, route_of}

-- x is placed after p: where leg p was open, leg x is too
unfoldable pub heir : ℕ → ℕ → ℕ → ℕ
heir p x w = cond (has w p) (with w x) w

-- leg x is gone
unfoldable pub strike : ℕ → ℕ → ℕ
strike x w = without w x

-- the set of x becomes w
unfoldable pub put_set : Board → ℕ → ℕ → Board
put_set b x w = board b.route b.stops (set b.sets x w) b.marks b.must

-- x placed after p: both halves of the split leg inherit what the leg had open, for each other node; marks stay
unfoldable pub placed_after : Board → ℕ → ℕ → Board
placed_after b p x = board (insert_in 63 (index_of p (route_of b) + 1) x b.route) (b.stops + 1) (set (map (heir p x) b.sets) x 0) b.marks b.must

-- x marked
unfoldable pub marked : Board → ℕ → Board
marked b x = board b.route b.stops b.sets (with b.marks x) b.must

-- x taken off the route, its set w again: that leg goes out of every set
unfoldable pub unplaced : Board → ℕ → ℕ → Board
unplaced b x w = board (remove_in (index_of x (route_of b)) b.route) (b.stops - 1) (set (map (strike x) b.sets) x w) b.marks b.must

-- x not marked
unfoldable pub unmarked : Board → ℕ → Board
unmarked b x = board b.route b.stops b.sets (without b.marks x) b.must

-- x marked "must go somewhere", placed or not
unfoldable pub obliged : Board → ℕ → Board
obliged b x = board b.route b.stops b.sets b.marks (with b.must x)

-- x not marked "must go somewhere"
unfoldable pub unobliged : Board → ℕ → Board
unobliged b x = board b.route b.stops b.sets b.marks (without b.must x)
