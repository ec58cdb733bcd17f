-- P1 to P12 of document 01, on the bytes of its sheet with one number altered; P2, P4 and P12 as 02, No. 3, has them, P9 on the sheet of 02, No. 5; then
-- 02, No. 7 and 11, on the same sheet.
-- P4 to P10, and that P11 is dead, are the planner's own answers: `step_of`, `count_of` and `judge_of`, which the contracts of `step`, `open_places`
-- and `verdict` equate. The others ask for what no entry point answers, and rest on the rules' definitions by which those answers are stated:
-- * P1, E(3): `start_at`. P2, L(2), P3, L(0), and P11's L(0): `last_at`. They are the window test's own E and L, `start` and `last_start`, at a stop of
--   a route; the verdict asks by the same E.
-- * P12: the rounds of the day, `every_round`, filtered by `belongs`, and by `keeps` too. `every_round` has each round of the day (`every-round`), and
--   each once (`every-once`), in rules/proofs/EveryRound.antt; the test `belongs` says of such a round what `Belongs` says, by which the promises
--   speak (`belongs-is`), every round that belongs is one of the day (`belongs-round`), and so the count is that of the rounds that belong and pass
--   (`counts-rounds`), in rules/proofs/Counted.antt. They ask for a plan in form; a state in form stands for one (`state-formed` in van/proofs/Plans.antt).
use Rattle.std.specs.Prelude.{◌≡◌, ℕ, ◌+◌, ◌^◌, Bool, true, false, cond, ◌&&◌, List, [], ◌∷◌, replicate, pos, negsuc}
use Rattle.day.specs.Tell.{day_of, van_of}
use Rattle.day.specs.Example.{sheet_with, tight_sheet, shut_sheet, mixed_jobs, both_jobs, profile_sheet}
use Rattle.rules.specs.Numbers.{kinds}
use Rattle.rules.specs.Along.{start_at, last_at}
use Rattle.rules.specs.Rounds.{keeps}
use Rattle.rules.specs.Day.{Day}
use Rattle.rules.specs.declared.Van.{Van}
use Rattle.rules.specs.Plan.{Plan}
use Rattle.rules.specs.Every.{every_round, belongs, count}
use Rattle.fleet.specs.Fleet.{board_in}
use Rattle.fleet.specs.declared.Fleet.{Fleet}
use Rattle.board.specs.Board.{set_of, open_at}
use Rattle.turns.specs.Together.{acted_all}
use Rattle.planner.specs.Face.{fresh_of, step_of, count_of, judge_of}
use Rattle.planner.specs.Promises.{plan_at}

-- a trail of four records, as good as any here
abbrev none : List ℕ
none = replicate 8 0

-- the fleet with one node placed after 0
abbrev placed : ℕ → List ℕ → Fleet
placed x sheet = (step_of sheet (fresh_of sheet) none kinds.PLACE 0 x).0.fleet

-- the fleet after settling
abbrev after : List ℕ → Fleet → Fleet
after sheet f = (step_of sheet f none kinds.SETTLE 0 0).0.fleet

-- the rounds that settling tells
abbrev rounds : List ℕ → Fleet → ℕ
rounds sheet f = (step_of sheet f none kinds.SETTLE 0 0).0.rounds

-- the open places in all
abbrev places : List ℕ → Fleet → ℕ
places sheet f = (count_of sheet f).places

-- the verdict
abbrev alive : List ℕ → Fleet → Bool
alive sheet f = (judge_of sheet f).alive

-- the sheet of document 01
abbrev paper : List ℕ
paper = sheet_with 2 60 25 100

-- the rounds that belong to a plan and keep the rules
abbrev kept : Day → Van → Plan → List (List ℕ)
kept d v a = filter (λ R. belongs d a R && keeps v d R) (every_round d)
  where
    filter : (List ℕ → Bool) → List (List ℕ) → List (List ℕ)
    filter f [] = []
    filter f (R ∷ l) = cond (f R) (R ∷ filter f l) (filter f l)

-- 02, No. 11: the sheet with clean at 1 and soiled at 2, with this number behind its van, and the one with both at 2
abbrev mixed : ℕ → List ℕ
mixed profile = profile_sheet 2 profile mixed_jobs

abbrev both : List ℕ
both = profile_sheet 2 1 both_jobs

-- route 0 2 1 3
abbrev turned : List ℕ → Fleet
turned sheet = (step_of sheet (placed 2 sheet) none kinds.PLACE 2 1).0.fleet

-- the places in these legs, as a word
abbrev legs : List ℕ → ℕ
legs [] = 0
legs (p ∷ l) = 2 ^ p + legs l

-- the table, each case an equation that computes
pub record Paper : Type 0 where
  -- route 0 2 3: E(3), L(2), L(0)
  pub p1 : start_at (day_of paper) (0 ∷ 2 ∷ 3 ∷ []) 2 ≡ 35
  pub p2 : last_at (day_of paper) (0 ∷ 2 ∷ 3 ∷ []) 1 ≡ pos 20
  pub p3 : last_at (day_of paper) (0 ∷ 2 ∷ 3 ∷ []) 0 ≡ pos 0
  -- route 0 2 3: place 0 of node 1 is struck, 25 against 20; so it is with latest(2) = 24; place 2 of node 1 is struck
  pub p4 : open_at (board_in (after paper (placed 2 paper)) 0) 1 0 ≡ false
  pub p5 : open_at (board_in (after (sheet_with 2 60 24 100) (placed 2 (sheet_with 2 60 24 100))) 0) 1 0 ≡ false
  pub p6 : open_at (board_in (after paper (placed 2 paper)) 0) 1 2 ≡ false
  -- fresh, metre limit 30: both places stay; 29: both struck, dead
  pub p7 : places (sheet_with 2 30 25 100) (after (sheet_with 2 30 25 100) (fresh_of (sheet_with 2 30 25 100))) ≡ 2
  pub p8 : places (sheet_with 2 29 25 100) (after (sheet_with 2 29 25 100) (fresh_of (sheet_with 2 29 25 100))) ≡ 0
  pub p8-dead : alive (sheet_with 2 29 25 100) (after (sheet_with 2 29 25 100) (fresh_of (sheet_with 2 29 25 100))) ≡ false
  -- soiled at 1 and 2, of loads 2 and 1, capacity 2, 1 placed: both places of node 2 are open, and both struck in 1 round, alive
  pub p9-open : places tight_sheet (placed 1 tight_sheet) ≡ 2
  pub p9 : places tight_sheet (after tight_sheet (placed 1 tight_sheet)) ≡ 0
  pub p9-rounds : rounds tight_sheet (placed 1 tight_sheet) ≡ 1
  pub p9-alive : alive tight_sheet (after tight_sheet (placed 1 tight_sheet)) ≡ true
  -- latest(2) = 19: 2 rounds, none open, alive
  pub p10 : rounds (sheet_with 2 60 19 100) (fresh_of (sheet_with 2 60 19 100)) ≡ 2
  pub p10-none : places (sheet_with 2 60 19 100) (after (sheet_with 2 60 19 100) (fresh_of (sheet_with 2 60 19 100))) ≡ 0
  pub p10-alive : alive (sheet_with 2 60 19 100) (after (sheet_with 2 60 19 100) (fresh_of (sheet_with 2 60 19 100))) ≡ true
  -- latest(3) = 10, route 0 3: L(0) = −20, dead
  pub p11 : last_at (day_of (sheet_with 2 60 25 10)) (0 ∷ 3 ∷ []) 0 ≡ negsuc 19
  pub p11-dead : alive (sheet_with 2 60 25 10) (fresh_of (sheet_with 2 60 25 10)) ≡ false
  -- fresh: 5 rounds belong, 1 keeps the rules, 0 3
  pub p12 : count (belongs (day_of paper) (plan_at (fresh_of paper) 0)) (every_round (day_of paper)) ≡ 5
  pub p12-kept : kept (day_of paper) (van_of paper 0) (plan_at (fresh_of paper) 0) ≡ (0 ∷ 3 ∷ []) ∷ []
  -- node 1 does not admit the van: only node 2 is open; placing 1 and closing it are 15; excluding it changes nothing; required, it leaves the van dead
  pub shut_open : places shut_sheet (fresh_of shut_sheet) ≡ 1
  pub shut-place : (step_of shut_sheet (fresh_of shut_sheet) none kinds.PLACE 0 1).0.answer ≡ 15
  pub shut-close : (step_of shut_sheet (fresh_of shut_sheet) none kinds.CLOSE 0 1).0.answer ≡ 15
  pub shut-exclude : step_of shut_sheet (fresh_of shut_sheet) none kinds.EXCLUDE 1 0 ≡ acted_all 0 0 (fresh_of shut_sheet) none
  pub shut-alive : alive shut_sheet (fresh_of shut_sheet) ≡ true
  pub shut-require : (step_of shut_sheet (fresh_of shut_sheet) none kinds.REQUIRE 1 0).0.answer ≡ 0
  pub shut-dead : alive shut_sheet (step_of shut_sheet (fresh_of shut_sheet) none kinds.REQUIRE 1 0).0.fleet ≡ false
  -- with the profile, 1 placed: of the soiled node 2, place 0 is struck, since a clean stop lies after it, and place 1 stays; without it both stay
  pub soiled-left : set_of (board_in (after (mixed 1) (placed 1 (mixed 1))) 0) 2 ≡ legs (1 ∷ [])
  pub soiled-anywhere : set_of (board_in (after (mixed 0) (placed 1 (mixed 0))) 0) 2 ≡ legs (0 ∷ 1 ∷ [])
  -- 2 placed: of the clean node 1, place 2 is struck, since a soiled stop is at it, and place 0 stays; without it both stay
  pub clean-left : set_of (board_in (after (mixed 1) (placed 2 (mixed 1))) 0) 1 ≡ legs (0 ∷ [])
  pub clean-anywhere : set_of (board_in (after (mixed 0) (placed 2 (mixed 0))) 0) 1 ≡ legs (0 ∷ 2 ∷ [])
  -- 1 placed: node 2 with both jobs stays in place 1, behind the clean stop, and only there; placed alone, it breaks nothing with itself
  pub both_left : set_of (board_in (after both (placed 1 both)) 0) 2 ≡ legs (1 ∷ [])
  pub both-alive : alive both (placed 2 both) ≡ true
  -- the soiled stop before the clean one: dead; without the profile alive
  pub turned-dead : alive (mixed 1) (turned (mixed 1)) ≡ false
  pub turned-alive : alive (mixed 0) (turned (mixed 0)) ≡ true
