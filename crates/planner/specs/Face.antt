-- What the five entry points answer, for every input (01, Refusal numbers; 02, No. 1, 5 and 7).
use Rattle.std.specs.Prelude.{ℕ, ◌≡◌, Bool, false, cond, Result, Ok, Err, List, eqb}
use Rattle.laws.specs.Basic.{or_else, unless}
use Rattle.sheet.specs.Section.{n_of, vans_of}
use Rattle.day.specs.Refuse.{call_refusal, open_refusal}
use Rattle.day.specs.Section.{section_in}
use Rattle.day.specs.Tell.{day_of, van_of, admitted}
use Rattle.rules.specs.Numbers.{refusal, step_said}
use Rattle.rules.specs.Fleet.{Plans, alive_all}
use Rattle.fleet.specs.Fleet.{no_fleet, fresh_fleet}
use Rattle.fleet.specs.Form.{in_form_all, form_with_all}
use Rattle.fleet.specs.Sums.{plans_in, places_all}
use Rattle.fleet.specs.declared.Fleet.{Fleet}
use Rattle.trail.specs.Steps.{rounds_of}
use Rattle.turns.specs.Together.{RanAll, acted_all}
use Rattle.acts.specs.Act.{act_all}
use Rattle.rules.specs.Refused.{number_of, number_in}
use Rattle.rules.specs.declared.Refusal.{Refusal}

-- the fresh fleet of a sheet: every ward that admits a van is open in it
abbrev pub fresh_of : List ℕ → Fleet
fresh_of sheet = fresh_fleet (n_of sheet) (vans_of sheet) (admitted sheet)

-- what opening gives: 0 and the fleet, or the number of a refusal and the fleet with every number 0
pub record Opened : Type 0 where
  pub answer : ℕ
  pub fleet : Fleet

-- "Opening returns the number; the state beside a refusal has every number 0."
unfoldable pub open_of : List ℕ → Opened
open_of sheet = record { answer = open_refusal sheet; fleet = cond (eqb (open_refusal sheet) 0) (fresh_of sheet) no_fleet }

-- "Asking for the open places in all or the verdict checks 1 to 4", now 6 and 7 too, "and 19 and returns the number": what every call checks, then 19
unfoldable pub ask_refusal : List ℕ → Fleet → ℕ
ask_refusal sheet f = or_else (call_refusal sheet) (unless (in_form_all (n_of sheet) (vans_of sheet) f) refusal.FORM)

-- the open places in all, or 0 beside the number of a refusal
pub record Counted : Type 0 where
  pub answer : ℕ
  pub places : ℕ

-- that number, and the open places in all, 0 beside a refusal
unfoldable pub count_of : List ℕ → Fleet → Counted
count_of sheet f = record { answer = ask_refusal sheet f; places = cond (eqb (ask_refusal sheet f) 0) (places_all (vans_of sheet) f) 0 }

-- the plans of the sheet's vans
abbrev pub plans_of : List ℕ → Fleet → Plans
plans_of sheet f = plans_in (vans_of sheet) f

-- the verdict, or dead beside the number of a refusal
pub record Judged : Type 0 where
  pub answer : ℕ
  pub alive : Bool

-- that number, and the fleet's verdict, dead beside a refusal
unfoldable pub judge_of : List ℕ → Fleet → Judged
judge_of sheet f = record { answer = ask_refusal sheet f; alive = cond (eqb (ask_refusal sheet f) 0) (alive_all (van_of sheet) (day_of sheet) (plans_of sheet f)) false }

-- "A step call re-reads the sheet for 1 to 4", now 6 and 7 too, "not 5; then 19": what every call checks, then 19
unfoldable pub step_refusal : List ℕ → Fleet → List ℕ → ℕ
step_refusal sheet f t = or_else (call_refusal sheet) (unless (form_with_all (n_of sheet) (vans_of sheet) f t) refusal.FORM)

-- a step: refused by those, or else the step that its words say, with its own refusals
unfoldable pub step_of : List ℕ → Fleet → List ℕ → ℕ → ℕ → ℕ → RanAll
step_of sheet f t word first second =
    cond (eqb (step_refusal sheet f t) 0) (act_all (van_of sheet) (day_of sheet) (vans_of sheet) f t (step_said word first second)) (acted_all (step_refusal sheet f t) 0 f t)

-- ---- what the answers of the code say

-- of `open`: where it refuses, every number of the fleet is 0
abbrev pub opened : Result Fleet Refusal → Opened
opened (Ok f) = record { answer = 0; fleet = f }
opened (Err e) = record { answer = number_of e; fleet = no_fleet }

-- of `open_places`
abbrev pub counted : Result ℕ Refusal → Counted
counted (Ok k) = record { answer = 0; places = k }
counted (Err e) = record { answer = number_of e; places = 0 }

-- of `verdict`
abbrev pub judged : Result Bool Refusal → Judged
judged (Ok b) = record { answer = 0; alive = b }
judged (Err e) = record { answer = number_of e; alive = false }

-- ---- what each contract allows: the outcomes in the relation, for the inputs before them

-- `open`: the answer and the fleet
abbrev pub Opens : List ℕ → Result Fleet Refusal → Type 0
Opens sheet r = opened r ≡ open_of sheet

-- `section`, of a sheet that lies at a place in memory: where the stretch lies, and its bytes
abbrev pub Sections : ℕ × ℕ → List ℕ → ℕ → (ℕ × ℕ) × List ℕ → Type 0
Sections at sheet number r = r ≡ section_in at sheet number

-- `step`: the rounds or the refusal, and the fleet and the trail at exit
abbrev pub Stepping : List ℕ → Fleet → List ℕ → ℕ → ℕ → ℕ → Result ℕ Refusal × Fleet × List ℕ → Type 0
Stepping sheet f t word first second r = step_of sheet f t word first second ≡ acted_all (number_in r.0) (rounds_of r.0) r.1 r.2

-- `open_places`: the answer and the places in all
abbrev pub Counts : List ℕ → Fleet → Result ℕ Refusal → Type 0
Counts sheet f r = counted r ≡ count_of sheet f

-- `verdict`: the answer and whether alive
abbrev pub Judges : List ℕ → Fleet → Result Bool Refusal → Type 0
Judges sheet f r = judged r ≡ judge_of sheet f
