-- The step of each kind on a fleet in form (02, No. 1). v is the number of vans.
use Rattle.std.specs.Prelude.{Bool, cond, not, ◌&&◌, List, ℕ, eqb, leb, ltb}
use Rattle.laws.specs.Basic.{or_else, unless, all_below}
use Rattle.rules.specs.Numbers.{refusal, kinds}
use Rattle.rules.specs.Day.{Day}
use Rattle.rules.specs.declared.Van.{Van}
use Rattle.rules.specs.declared.Step.{Step}
use Rattle.trail.specs.Steps.{undo_level, oblige_step}
use Rattle.van.specs.Act.{act_of}
use Rattle.fleet.specs.Fleet.{state_in, trail_in}
use Rattle.fleet.specs.Form.{shares_none}
use Rattle.fleet.specs.declared.Fleet.{Fleet}
use Rattle.turns.specs.Together.{RanAll, acted_all, unless_barred, alone}
use Rattle.turns.specs.Turn.{turns_of}
use Rattle.bars.specs.Bars.{place_bar}

-- ---- why a step in which all vans take part is refused

-- why opening a level is refused: every van has as many
unfoldable pub level_bar : Fleet → ℕ
level_bar f = unless (ltb (state_in f 0).depth 64) refusal.DEPTH

-- why stepping back to the fleet g is refused: "20 covers an undoing that breaks this", the rule between vans
unfoldable pub back_bar : ℕ → ℕ → Fleet → List ℕ → Fleet → ℕ
back_bar n v f t g =
    or_else (unless (ltb 0 (state_in f 0).depth) refusal.DEPTH)
    (unless (all_below v (λ j. (undo_level n (state_in f j) (trail_in v t j)).0) && shares_none n v g) refusal.MISFIT)

-- ---- the step of each kind

-- a kind of step that is for one van
abbrev pub of_one_van : ℕ → Bool
of_one_van kind = leb kinds.PLACE kind && leb kind kinds.SETTLE

-- steps 1 to 5, in a van: "21, van number out of range, before 12"
unfoldable pub van_act : (ℕ → Van) → Day → ℕ → Fleet → List ℕ → Step → RanAll
van_act vans d v f t step =
    cond (not (ltb step.van v)) (acted_all refusal.VAN 0 f t)
    (cond (eqb step.kind kinds.PLACE) (unless_barred (place_bar d v f t step.van step.first step.second) f t (turns_of d.n v f t step))
    (alone v f t step.van (λ s u. act_of (vans step.van) d s u step.kind step.first step.second)))

-- a step: "Steps 6, 7 and 8 ignore the van"; 11 for an unknown kind
unfoldable pub act_all : (ℕ → Van) → Day → ℕ → Fleet → List ℕ → Step → RanAll
act_all vans d v f t step =
    cond (eqb step.kind kinds.LEVEL) (unless_barred (level_bar f) f t (turns_of d.n v f t step))
    (cond (eqb step.kind kinds.BACK) (unless_barred (back_bar d.n v f t (turns_of d.n v f t step).0.fleet) f t (turns_of d.n v f t step))
    (cond (eqb step.kind kinds.OBLIGE) (alone v f t 0 (λ s u. oblige_step d.n s u step.first))
    (cond (of_one_van step.kind) (van_act vans d v f t step) (acted_all refusal.KIND 0 f t))))
