-- Why placing a ward in a van of a fleet is refused (02, No. 1). v is the number of vans.
use Rattle.std.specs.Prelude.{Bool, not, ◌&&◌, ◌||◌, List, ℕ, eqb, ltb}
use Rattle.laws.specs.Basic.{or_else, unless, all_below, any_below}
use Rattle.rules.specs.Numbers.{refusal}
use Rattle.rules.specs.Day.{Day}
use Rattle.board.specs.Board.{set_of}
use Rattle.records.specs.Trail.{room_of}
use Rattle.trail.specs.Refusals.{place_shut}
use Rattle.van.specs.Act.{owed_of}
use Rattle.fleet.specs.Fleet.{state_in, board_in, trail_in}
use Rattle.fleet.specs.declared.Fleet.{Fleet}

-- another van than i owes x
unfoldable pub claimed : Day → ℕ → Fleet → ℕ → ℕ → Bool
claimed d v f i x = any_below v (λ j. not (eqb j i) && owed_of d (state_in f j) x)

-- van j has room for its record of placing x in van i: one in van i, and one in another van if x is open there
unfoldable pub roomy : ℕ → Fleet → List ℕ → ℕ → ℕ → ℕ → Bool
roomy v f t i x j = (not (eqb j i) && eqb (set_of (board_in f j) x) 0) || ltb (state_in f j).records (room_of (trail_in v t j))

-- why placing is refused: "22, another van owes the ward, after 16", and no room in some van's trail
unfoldable pub place_bar : Day → ℕ → Fleet → List ℕ → ℕ → ℕ → ℕ → ℕ
place_bar d v f t i p x =
    or_else (place_shut d.n (board_in f i) p x)
    (or_else (unless (not (claimed d v f i x)) refusal.CLAIMED)
    (unless (all_below v (roomy v f t i x)) refusal.ROOM))
