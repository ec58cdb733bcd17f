-- The table P1 to P12, and what 02, No. 7 and 11, add, holds: each line is computed.
use mathlib.Core.Path.{refl}
use lib.Count.{ones, ones_in}
use Rattle.laws.specs.Basic.{all_below, any_below, or_else, sum_below, peak, tab, part_at, joined}
use Rattle.bits.specs.Places.{digit, has, with, within}
use Rattle.rules.specs.Class.{one_bit, admits}
use Rattle.rules.specs.Profile.{is_clean, is_soiled}
use Rattle.rules.specs.Rounds.{keeps}
use Rattle.rules.specs.Day.{is_inner}
use Rattle.rules.specs.Every.{every_round}
use Rattle.rules.specs.Verdict.{owed}
use Rattle.rules.specs.Tests.{stays}
use Rattle.rules.specs.Settle.{round, strikes, settle_in, rounds_in}
use Rattle.words.specs.Word.{word_at}
use Rattle.sheet.specs.Section.{head_refusal, limits_refusal, nodes_refusal, jobs_refusal, table_refusal, steps_refusal, later_refusal, read_refusal}
use Rattle.day.specs.Tell.{job_at}
use Rattle.tables.specs.Cell.{cell}
use Rattle.day.specs.Refuse.{call_refusal, clash, apart, can_ride, ends_admit}
use Rattle.along.specs.Sets.{word_from, sets_of}
use Rattle.board.specs.Route.{word_of, index_of, insert_in}
use Rattle.board.specs.Change.{heir, placed_after, put_set, marked}
use Rattle.board.specs.Board.{route_of, on_route, legs_of, set_of, open_at, leg_node, places_of}
use Rattle.board.specs.Fresh.{no_state, fresh_state, fresh_sets, fresh_set}
use Rattle.fleet.specs.Fleet.{state_in, fresh_fleet, share_of, trail_in}
use Rattle.fleet.specs.Form.{has_ward, clear_of, shares_none, van_fits, idle, in_form_all, form_with_all}
use Rattle.fleet.specs.Sums.{places_all}
use Rattle.turns.specs.Together.{unless_barred, together, alone}
use Rattle.turns.specs.Turn.{turn_of}
use Rattle.bars.specs.Bars.{claimed, roomy, place_bar}
use Rattle.acts.specs.Act.{van_act, act_all}
use Rattle.rules.specs.Fleet.{alive_all}
use Rattle.board.specs.Form.{stop_ok, set_ok, only_inner, mark_ok, must_ok, board_ok, level_ok, levels_ok, in_form, form_with}
use Rattle.records.specs.Trail.{room_of, shrunk, note_below, note_one, pushed}
use Rattle.trail.specs.Refusals.{place_shut, place_refusal, exclude_refusal, require_refusal}
use Rattle.planner.specs.Face.{step_of, step_refusal, ask_refusal, count_of, judge_of}
use Rattle.paper.specs.Paper.{Paper}
use Rattle.rules.specs.Verdict as rules
use Rattle.trail.specs.Steps as trail
use Rattle.van.specs.Act.{act_of}

paper-cases : Paper
unfolding all_below any_below or_else sum_below peak tab part_at joined word_at head_refusal limits_refusal nodes_refusal jobs_refusal table_refusal steps_refusal later_refusal read_refusal job_at clash apart can_ride ends_admit one_bit admits cell call_refusal digit has with within is_clean is_soiled stays round strikes settle_in rounds_in keeps owed rules.alive every_round word_of index_of insert_in route_of on_route legs_of set_of open_at is_inner leg_node places_of ones ones_in heir placed_after put_set marked no_state fresh_state fresh_sets fresh_set stop_ok set_ok only_inner mark_ok must_ok board_ok level_ok levels_ok in_form form_with room_of shrunk note_below note_one pushed place_shut place_refusal exclude_refusal require_refusal trail.place_step trail.close_step trail.exclude_step trail.require_step trail.recorded trail.settle_step trail.unless_refused sets_of word_from step_of act_of step_refusal ask_refusal count_of judge_of state_in fresh_fleet share_of trail_in has_ward clear_of shares_none van_fits idle in_form_all form_with_all places_all unless_barred together alone turn_of claimed roomy place_bar van_act act_all alive_all
paper-cases = record { p1 = refl; p2 = refl; p3 = refl; p4 = refl; p5 = refl; p6 = refl; p7 = refl; p8 = refl; p8-dead = refl; p9-open = refl; p9 = refl; p9-rounds = refl; p9-alive = refl; p10 = refl; p10-none = refl; p10-alive = refl; p11 = refl; p11-dead = refl; p12 = refl; p12-kept = refl; shut_open = refl; shut-place = refl; shut-close = refl; shut-exclude = refl; shut-alive = refl; shut-require = refl; shut-dead = refl; soiled-left = refl; soiled-anywhere = refl; clean-left = refl; clean-anywhere = refl; both_left = refl; both-alive = refl; turned-dead = refl; turned-alive = refl }
