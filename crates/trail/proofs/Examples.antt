-- Small cases, computed.
use mathlib.Core.Path.{◌≡◌, refl}
use mathlib.Core.Bool.{true, false}
use mathlib.Core.List.{[], ◌∷◌}
use lib.ListN.{take, set, replicate}
use Rattle.laws.specs.Basic.{tab, all_below, or_else}
use Rattle.bits.specs.Places.{digit, has, with, within}
use Rattle.rules.specs.Numbers.{refusal}
use Rattle.rules.specs.Day.{is_inner}
use Rattle.board.specs.Route.{index_of, insert_in, word_of}
use Rattle.board.specs.Board.{route_of, on_route, legs_of, set_of, open_at, leg_node}
use Rattle.board.specs.Fresh.{no_state, fresh_set, fresh_sets, fresh_state}
use Rattle.board.specs.declared.State.{State}
use Rattle.board.specs.Form.{stop_ok, set_ok, only_inner, mark_ok, must_ok, board_ok, level_ok, levels_ok, in_form}
use Rattle.board.specs.Change.{heir, placed_after, obliged}
use Rattle.records.specs.Trail.{room_of, pushed}
use Rattle.trail.specs.Refusals.{place_shut, place_refusal, oblige_refusal}
use Rattle.trail.specs.Steps.{unless_refused, recorded, place_step, oblige_step}

-- the fresh state of four nodes, for a van that may serve every ward
abbrev fresh : State
fresh = fresh_state 4 (λ y. true)

-- the fresh state of four nodes is in form, the state of all zeros is not
fresh-4 : in_form 4 fresh ≡ true
unfolding in_form board_ok levels_ok fresh_state fresh_sets tab fresh_set all_below stop_ok set_ok only_inner mark_ok must_ok level_ok on_route route_of set_of is_inner has digit within legs_of word_of with
fresh-4 = refl

none-4 : in_form 4 no_state ≡ false
unfolding in_form board_ok no_state
none-4 = refl

-- 1 0 2 on it: route 0 2 3; node 1 open in legs 0 and 2; one record, of kind 2 and node 2, and the set 1
place-0-2 : (place_step 4 fresh (replicate 4 0) 0 2).0.state.sets ≡ set (replicate 64 0) 1 5
unfolding place_step unless_refused recorded place_shut place_refusal or_else room_of pushed placed_after heir insert_in index_of leg_node fresh_state fresh_sets tab fresh_set on_route route_of set_of open_at is_inner has digit with
place-0-2 = refl

route-0-2 : take 3 (place_step 4 fresh (replicate 4 0) 0 2).0.state.route ≡ 0 ∷ 2 ∷ 3 ∷ []
unfolding place_step unless_refused recorded place_shut place_refusal or_else room_of pushed placed_after heir insert_in index_of leg_node fresh_state fresh_sets tab fresh_set on_route route_of set_of open_at is_inner has digit with
route-0-2 = refl

trail-0-2 : (place_step 4 fresh (replicate 4 0) 0 2).1 ≡ 514 ∷ 1 ∷ 0 ∷ 0 ∷ []
unfolding place_step unless_refused recorded place_shut place_refusal or_else room_of pushed placed_after heir insert_in index_of leg_node fresh_state fresh_sets tab fresh_set on_route route_of set_of open_at is_inner has digit with
trail-0-2 = refl

-- no room, with a trail of one word
no_room : (place_step 4 fresh (0 ∷ []) 0 2).0.answer ≡ refusal.ROOM
unfolding place_step unless_refused recorded place_shut place_refusal or_else room_of leg_node fresh_state fresh_sets tab fresh_set on_route route_of set_of open_at is_inner has digit
no_room = refl

-- 8 2 on it: one record, of kind 4 and node 2, and 0; the mark is set
must-2 : (oblige_step 4 fresh (replicate 4 0) 2).0.state.must ≡ 4
unfolding oblige_step unless_refused recorded oblige_refusal or_else room_of pushed obliged fresh_state is_inner has digit with
must-2 = refl

trail-2 : (oblige_step 4 fresh (replicate 4 0) 2).1 ≡ 1026 ∷ 0 ∷ 0 ∷ 0 ∷ []
unfolding oblige_step unless_refused recorded oblige_refusal or_else room_of pushed obliged fresh_state is_inner has digit with
trail-2 = refl
