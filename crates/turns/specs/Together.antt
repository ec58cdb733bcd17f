-- What a fleet's step gives: each van's turn is what a step of one van gives on its state and its part of the trail.
use Rattle.std.specs.Prelude.{Result, cond, List, ◌++◌, ℕ, ◌*◌, drop, eqb, ltb}
use Rattle.laws.specs.Basic.{joined}
use Rattle.board.specs.declared.State.{State}
use Rattle.trail.specs.Steps.{Ran, rounds_of, answered}
use Rattle.fleet.specs.Fleet.{fleet_of, state_in, share_of, trail_in}
use Rattle.fleet.specs.Rows.{fleet_with}
use Rattle.fleet.specs.declared.Fleet.{Fleet}
use Rattle.rules.specs.Refused.{number_in}
use Rattle.rules.specs.declared.Refusal.{Refusal}

-- what a step of a fleet gives: 0 or the number of a refusal, how many rounds of settling struck something, and the fleet
pub record Turned : Type 0 where
  pub answer : ℕ
  pub rounds : ℕ
  pub fleet : Fleet

-- that, and the trail at exit
abbrev pub RanAll : Type 0
RanAll = Turned × List ℕ

-- by its parts: the answer, the rounds, the fleet, the trail
abbrev pub acted_all : ℕ → ℕ → Fleet → List ℕ → RanAll
acted_all k rounds f t = (record { answer = k; rounds = rounds; fleet = f }, t)

-- "Refused: state and trail as before, rounds 0"; accepted where the number is 0
unfoldable pub unless_barred : ℕ → Fleet → List ℕ → RanAll → RanAll
unless_barred number f t after = cond (eqb number 0) after (acted_all number 0 f t)

-- every van's turn taken: the states and the parts of the trail that the turns leave; what is no van, and words left over, stay
unfoldable pub together : ℕ → Fleet → List ℕ → ℕ → (ℕ → Ran) → RanAll
together v f t rounds turn =
    acted_all 0 rounds (fleet_of (λ j. cond (ltb j v) (turn j).0.state (state_in f j))) (joined v (λ j. (turn j).1) ++ drop (v * share_of v t) t)

-- a step of van i alone: its answer and rounds; no other van changes
unfoldable pub alone : ℕ → Fleet → List ℕ → ℕ → (State → List ℕ → Ran) → RanAll
alone v f t i step =
    let r = step (state_in f i) (trail_in v t i) in
    unless_barred r.0.answer f t (together v f t r.0.rounds (λ j. cond (eqb j i) r (answered 0 (state_in f j) (trail_in v t j))))

-- what a step has left in arrays and a trail, with its answer: those rounds, or why it is refused
abbrev pub ran_all : Result ℕ Refusal → List (List ℕ) → List (List ℕ) → List (List ℕ) → List (List ℕ) → List ℕ → RanAll
ran_all o routes sets levels figures t = acted_all (number_in o) (rounds_of o) (fleet_with routes sets levels figures) t
