-- For contracts: what a line tells of one van, and of all; and what is kept of the vans' routes from line to line.
use Rattle.std.specs.Prelude.{ℕ, ◌<◌, ◌≡◌, Bool, cond, not, ◌&&◌, ◌||◌, List, [], ◌∷◌, length, get_or, take, eqb}
use Rattle.laws.specs.Basic.{all_below, sum_below}
use Rattle.rules.specs.Numbers.{most_vans}
use Rattle.rules.specs.Verdict.{alive}
use Rattle.rules.specs.declared.Van.{Van}
use Rattle.sheet.specs.Section.{vans_of}
use Rattle.day.specs.Tell.{day_of, van_of}
use Rattle.board.specs.Board.{places_of}
use Rattle.fleet.specs.Fleet.{state_in}
use Rattle.fleet.specs.declared.Fleet.{Fleet}
use Rattle.fleet.specs.Rows.{figures_in, RowsOf}
use Rattle.fleet.specs.Sums.{all_served}
use Rattle.van.specs.Act.{plan_in}
use Rattle.verdict.specs.Verdict.{Coursed}
use Rattle.verdict.specs.declared.Course.{Course}
use Rattle.telling.specs.declared.Sums.{Sums}

-- "open places in all", "records", "verdict", of van j, in a row
abbrev pub told_in : List ℕ → Fleet → ℕ → List ℕ
told_in sheet f j = places_of (state_in f j).sets 64 ∷ (state_in f j).records ∷ cond (alive (van_of sheet j) (day_of sheet) (plan_in (state_in f j))) 1 0 ∷ []

-- of every van of the sheet
pub record ToldAll (sheet : List ℕ) (f : Fleet) (told : List (List ℕ)) : Type 0 where
  pub eight : length told ≡ most_vans
  pub each : (j : ℕ) → j < vans_of sheet → get_or told j [] ≡ told_in sheet f j

-- van j is told anew: every van is, or its records are other than those told before
abbrev pub anew : Bool → List (List ℕ) → List (List ℕ) → ℕ → Bool
anew every figures before j = every || not (eqb (figures_in (get_or figures j [])).records (get_or (get_or before j []) 1 0))

-- what a line tells of all v vans of a fleet: the sums of what is told of each, and whether each is alive and every ward that must go somewhere is served
abbrev pub sums_of : ℕ → List (List ℕ) → Fleet → Sums
sums_of v told f = record {
  places = sum_below v (λ j. get_or (get_or told j []) 0 0);
  records = sum_below v (λ j. get_or (get_or told j []) 1 0);
  alive = all_below v (λ j. not (eqb (get_or (get_or told j []) 2 0) 0)) && all_served v f;
}

-- ---- the courses of the routes, kept

-- the course that a row of four has behind the number of stops
abbrev pub course_in : List ℕ → Course
course_in way = record { keeps = not (eqb (get_or way 1 0) 0); on = get_or way 2 0; called = get_or way 3 0 }

-- the row has the number of stops of a van's route, and its course
pub record Kept (sheet jobs : List ℕ) (van : Van) (route : List ℕ) (stops : ℕ) (way : List ℕ) : Type 0 where
  pub long : length way ≡ 4
  pub count : get_or way 0 0 ≡ stops
  pub course : Coursed van (day_of sheet) jobs (take stops route) (course_in way)

-- of van j, in rows
abbrev pub KeptIn : List ℕ → List ℕ → List (List ℕ) → List (List ℕ) → List (List ℕ) → ℕ → Type 0
KeptIn sheet jobs routes figures ways j = Kept sheet jobs (van_of sheet j) (get_or routes j []) (figures_in (get_or figures j [])).stops (get_or ways j [])

-- of every van of the sheet
pub record KeptAll (sheet jobs : List ℕ) (routes figures ways : List (List ℕ)) : Type 0 where
  pub rows : RowsOf 4 ways
  pub each : (j : ℕ) → j < vans_of sheet → KeptIn sheet jobs routes figures ways j

-- of each van whose stops are as many as were kept, and of each that has the records that were told
pub record KeptSome (sheet jobs : List ℕ) (routes figures told ways : List (List ℕ)) : Type 0 where
  pub stopped : (j : ℕ) → j < vans_of sheet → get_or (get_or ways j []) 0 0 ≡ (figures_in (get_or figures j [])).stops → KeptIn sheet jobs routes figures ways j
  pub recorded : (j : ℕ) → j < vans_of sheet → (figures_in (get_or figures j [])).records ≡ get_or (get_or told j []) 1 0 → KeptIn sheet jobs routes figures ways j
