-- The plan that a board stands for: its route, its open places, its marks. The marks "must go somewhere" are the fleet's, and not in it.
use Rattle.bits.specs.Places.{has}
use Rattle.board.specs.Board.{Board, route_of, open_at}
use Rattle.rules.specs.Plan.{Plan}

-- the plan that a board stands for
abbrev pub plan_of : Board → Plan
plan_of b = record { route = route_of b; places = open_at b; marks = has b.marks }
