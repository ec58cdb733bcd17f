-- A van's step on a day, on a state in form: the plan that the state stands for, and the step of each kind.
use Rattle.std.specs.Prelude.{ℕ, Bool, cond, List, eqb}
use Rattle.rules.specs.Numbers.{refusal, kinds}
use Rattle.rules.specs.Day.{Day}
use Rattle.rules.specs.declared.Van.{Van}
use Rattle.rules.specs.Plan.{Plan}
use Rattle.rules.specs.Settle.{settle, rounds}
use Rattle.rules.specs.Verdict.{owed}
use Rattle.board.specs.Board.{board_of}
use Rattle.board.specs.declared.State.{State}
use Rattle.trail.specs.Steps.{Ran, answered, place_step, close_step, exclude_step, require_step, settle_step, level_step, back_step}
use Rattle.stands.specs.Stands.{plan_of}
use Rattle.along.specs.Sets.{sets_of}

-- the plan that a state stands for
abbrev pub plan_in : State → Plan
plan_in s = plan_of (board_of s)

-- the sets that settling leaves
abbrev pub settled_sets : Van → Day → State → List ℕ
settled_sets v d s = sets_of (settle v d (plan_in s).route (plan_in s).places)

-- the rounds that strike something
abbrev pub settling_rounds : Van → Day → State → ℕ
settling_rounds v d s = rounds v d (plan_in s).route (plan_in s).places

-- whether x is owed
abbrev pub owed_of : Day → State → ℕ → Bool
owed_of d s = owed d (plan_in s).route (plan_in s).marks

-- the step of each kind; 11 for any other kind
unfoldable pub act_of : Van → Day → State → List ℕ → ℕ → ℕ → ℕ → Ran
act_of v d s t kind first second =
    cond (eqb kind kinds.PLACE) (place_step d.n s t first second)
    (cond (eqb kind kinds.CLOSE) (close_step d.n s t first second)
    (cond (eqb kind kinds.EXCLUDE) (exclude_step d.n s t (owed_of d s first) first)
    (cond (eqb kind kinds.REQUIRE) (require_step d.n s t first)
    (cond (eqb kind kinds.SETTLE) (settle_step s t (settling_rounds v d s) (settled_sets v d s))
    (cond (eqb kind kinds.LEVEL) (level_step s t)
    (cond (eqb kind kinds.BACK) (back_step d.n s t)
    (answered refusal.KIND s t)))))))
