-- The tests of the form, as a loop makes them: on numbers and words.
use Rattle.std.specs.Prelude.{Bool, cond, ◌||◌, List, ℕ, get_or, eqb, ltb}
use Rattle.laws.specs.Basic.{all_below}
use Rattle.bits.specs.Places.{within}
use Rattle.rules.specs.Day.{is_inner}
use Rattle.board.specs.Route.{word_of}
use Rattle.board.specs.Form.{stop_ok}

-- entry i is 0 where it is unused: from k on
unfoldable pub zero_from : ℕ → List ℕ → ℕ → Bool
zero_from k l i = ltb i k || eqb (get_or l i 0) 0

-- the stops as a set, or 0 where one of them is not as it must be
unfoldable pub seen_of : ℕ → ℕ → List ℕ → ℕ
seen_of n stops l = cond (all_below stops (stop_ok n stops l)) (word_of stops l) 0

-- the set of node y, be it on the route or not: of these legs where y is between the ends, else empty
unfoldable pub set_test : ℕ → List ℕ → ℕ → ℕ → Bool
set_test n sets legs y = cond (is_inner n y) (within (get_or sets y 0) legs) (eqb (get_or sets y 0) 0)

-- the node at place i of the route has no place open
unfoldable pub stop_shut : List ℕ → List ℕ → ℕ → Bool
stop_shut route sets i = eqb (get_or sets (get_or route i 0) 0) 0
