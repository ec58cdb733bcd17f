-- The steps on a state in form: the answer with the rounds of settling and the state, and the trail (01, Steps; 02, No. 1).
use Rattle.std.specs.Prelude.{Bool, Result, Ok, Err, cond, List, ℕ, ◌+◌, ◌-◌, get_or, set, eqb, leb, ltb}
use Rattle.laws.specs.Basic.{or_else, unless}
use Rattle.bits.specs.Places.{has, without}
use Rattle.rules.specs.Numbers.{refusal}
use Rattle.board.specs.Board.{Board, board, state_of, state_with, board_of, on_board, set_of}
use Rattle.board.specs.Change.{put_set, placed_after, marked, obliged}
use Rattle.board.specs.declared.State.{State}
use Rattle.board.specs.declared.Figures.{Figures}
use Rattle.records.specs.Trail.{room_of, pushed, change, first_word, shrunk, note_below}
use Rattle.trail.specs.Refusals.{place_refusal, exclude_refusal, require_refusal, oblige_refusal}
use Rattle.records.specs.Undo.{Undone, undo_many}
use Rattle.trail.specs.declared.Outcome.{Outcome}
use Rattle.rules.specs.Refused.{number_in}
use Rattle.rules.specs.declared.Refusal.{Refusal}

-- what a step gives: 0 or the number of a refusal, how many rounds of settling struck something, and the state
pub record Stepped : Type 0 where
  pub answer : ℕ
  pub rounds : ℕ
  pub state : State

-- that, and the trail at exit
abbrev pub Ran : Type 0
Ran = Stepped × List ℕ

-- by its parts: the answer, the rounds, the state, the trail
abbrev pub acted : ℕ → ℕ → State → List ℕ → Ran
acted k rounds s t = (record { answer = k; rounds = rounds; state = s }, t)

-- with no round of settling
abbrev pub answered : ℕ → State → List ℕ → Ran
answered k s t = acted k 0 s t

-- the numbers of the state after a step: those before it, where it is refused
abbrev pub after_of : Figures → Result Outcome Refusal → Figures
after_of f (Ok o) = o.after
after_of f (Err e) = f

-- the rounds of settling that struck something
abbrev pub rounds_in : Result Outcome Refusal → ℕ
rounds_in (Ok o) = o.rounds
rounds_in (Err e) = 0

-- the same of an answer that has the rounds alone
abbrev pub rounds_of : Result ℕ Refusal → ℕ
rounds_of (Ok k) = k
rounds_of (Err e) = 0

-- what a step has left in arrays and a trail, with its outcome; f are the numbers of the state before it
abbrev pub ran : Figures → Result Outcome Refusal → List ℕ → List ℕ → List ℕ → List ℕ → Ran
ran f o route sets levels t = acted (number_in o) (rounds_in o) (state_with route sets levels (after_of f o)) t

-- "Refused: state and trail as before, rounds 0"; accepted where the number is 0
unfoldable pub unless_refused : ℕ → State → List ℕ → Ran → Ran
unless_refused number s t after = cond (eqb number 0) after (answered number s t)

-- accepted with one record: the board changes, and the record is written
unfoldable pub recorded : State → List ℕ → Board → ℕ → ℕ → Ran
recorded s t b first second = answered 0 (on_board s b (s.records + 1)) (pushed t s.records first second)

-- accepted with the record of a set made smaller: that of x becomes w
abbrev pub shrank : State → List ℕ → ℕ → ℕ → Ran
shrank s t x w = recorded s t (put_set (board_of s) x w) (first_word change.SHRINKING x) (set_of (board_of s) x)

-- step 1: place x after p. Recorded with the node's set before
unfoldable pub place_step : ℕ → State → List ℕ → ℕ → ℕ → Ran
place_step n s t p x =
    unless_refused (place_refusal n (board_of s) s.records (room_of t) p x) s t
    (recorded s t (placed_after (board_of s) p x) (first_word change.PLACING x) (set_of (board_of s) x))

-- step 2: close the place
unfoldable pub close_step : ℕ → State → List ℕ → ℕ → ℕ → Ran
close_step n s t p x =
    unless_refused (place_refusal n (board_of s) s.records (room_of t) p x) s t
    (shrank s t x (without (set_of (board_of s) x) p))

-- step 3: exclude, close all its places. None open: nothing changes
unfoldable pub exclude_step : ℕ → State → List ℕ → Bool → ℕ → Ran
exclude_step n s t owed x =
    unless_refused (exclude_refusal n (board_of s) s.records (room_of t) owed x) s t
    (cond (eqb (set_of (board_of s) x) 0) (answered 0 s t) (shrank s t x 0))

-- step 4: require. Already marked: nothing changes. The second word is 0
unfoldable pub require_step : ℕ → State → List ℕ → ℕ → Ran
require_step n s t x =
    unless_refused (require_refusal n (board_of s) s.records (room_of t) x) s t
    (cond (has s.marks x) (answered 0 s t) (recorded s t (marked (board_of s) x) (first_word change.MARKING x) 0))

-- step 5, its rounds and sets known: refused where the records needed exceed the room left; else one record for each set that shrank
unfoldable pub settle_step : State → List ℕ → ℕ → List ℕ → Ran
settle_step s t rounds new =
    unless_refused (unless (leb (s.records + shrunk s.sets new 64) (room_of t)) refusal.ROOM) s t
    (acted 0 rounds (on_board s (board s.route s.stops new s.marks s.must) (s.records + shrunk s.sets new 64)) (note_below s.sets new 64 (s.records, t)).1)

-- step 6: open a level, which holds the record count. A 65th is refused
unfoldable pub level_step : State → List ℕ → Ran
level_step s t =
    unless_refused (unless (ltb s.depth 64) refusal.DEPTH) s t
    (answered 0 (state_of s.route s.stops s.sets s.marks s.must (set s.levels s.depth s.records) (s.depth + 1) s.records) t)

-- the record count that the last level holds
unfoldable pub base_of : State → ℕ
base_of s = get_or s.levels (s.depth - 1) 0

-- the records above the last level undone
unfoldable pub undo_level : ℕ → State → List ℕ → Undone
undo_level n s t = undo_many (s.records - base_of s) n (board_of s) s.records t

-- the last level dropped, on the board before it
unfoldable pub dropped : State → Board → State
dropped s b = state_of b.route b.stops b.sets b.marks b.must (set s.levels (s.depth - 1) 0) (s.depth - 1) (base_of s)

-- step 7: undo to the last level and drop it. Refused with none open, or where a record does not fit
unfoldable pub back_step : ℕ → State → List ℕ → Ran
back_step n s t =
    unless_refused (or_else (unless (ltb 0 s.depth) refusal.DEPTH) (unless (undo_level n s t).0 refusal.MISFIT)) s t
    (answered 0 (dropped s (undo_level n s t).1) t)

-- step 8: x must go somewhere, placed or not. Already set: nothing changes. The second word is 0
unfoldable pub oblige_step : ℕ → State → List ℕ → ℕ → Ran
oblige_step n s t x =
    unless_refused (oblige_refusal n (board_of s) s.records (room_of t) x) s t
    (cond (has s.must x) (answered 0 s t) (recorded s t (obliged (board_of s) x) (first_word change.OBLIGING x) 0))
