-- What the line of a case tells, a section apart: the answer, the rounds, the open places and 1 for alive; the fleet; and the trail at exit.
use Rattle.std.specs.Prelude.{ℕ, cond, List, [], ◌∷◌, eqb}
use Rattle.fleet.specs.declared.Fleet.{Fleet}
use Rattle.planner.specs.Face.{open_of, step_of, count_of, judge_of}
use Rattle.probe.specs.declared.Case.{Case}

-- the numbers, 0 where the question has none; the fleet that came back, or the one given where the question returns none; the trail
unfoldable pub told_of : List ℕ → Case → List ℕ → List ℕ × Fleet × List ℕ
told_of sheet c t =
    let o = open_of sheet in
    let s = step_of sheet c.fleet t c.word c.first c.second in
    let p = count_of sheet c.fleet in
    let v = judge_of sheet c.fleet in
    cond (eqb c.question 0) (o.answer ∷ 0 ∷ 0 ∷ 0 ∷ [], o.fleet, t)
    (cond (eqb c.question 1) (s.0.answer ∷ s.0.rounds ∷ 0 ∷ 0 ∷ [], s.0.fleet, s.1)
    (cond (eqb c.question 2) (p.answer ∷ 0 ∷ p.places ∷ 0 ∷ [], c.fleet, t)
    (v.answer ∷ 0 ∷ 0 ∷ cond v.alive 1 0 ∷ [], c.fleet, t)))
