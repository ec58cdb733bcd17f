-- A fleet in arrays: a row of each for every van, and the other numbers of each.
use Rattle.std.specs.Prelude.{◌≡◌, List, [], ◌∷◌, ℕ, ◌<◌, length, get_or, replicate}
use Rattle.rules.specs.Numbers.{most_vans}
use Rattle.sheet.specs.Section.{n_of, vans_of}
use Rattle.sheet.specs.Place.{Laid}
use Rattle.sheet.specs.declared.Layout.{Layout}
use Rattle.day.specs.Refuse.{call_refusal}
use Rattle.board.specs.Board.{Board, board, state_with}
use Rattle.board.specs.Held.{Sound, Words}
use Rattle.board.specs.declared.State.{State}
use Rattle.board.specs.declared.Figures.{Figures}
use Rattle.laws.specs.Basic.{tab}
use Rattle.fleet.specs.Fleet.{fleet_of, state_in}
use Rattle.fleet.specs.declared.Fleet.{Fleet}

-- the other numbers of a van, from their row of five
abbrev pub figures_in : List ℕ → Figures
figures_in l = record { stops = get_or l 0 0; marks = get_or l 1 0; must = get_or l 2 0; depth = get_or l 3 0; records = get_or l 4 0 }

-- those of a state
abbrev pub figures_of : State → Figures
figures_of s = record { stops = s.stops; marks = s.marks; must = s.must; depth = s.depth; records = s.records }

-- and the row that has them
abbrev pub row_of : Figures → List ℕ
row_of f = f.stops ∷ f.marks ∷ f.must ∷ f.depth ∷ f.records ∷ []

-- the state in row j
abbrev pub row_state : List (List ℕ) → List (List ℕ) → List (List ℕ) → List (List ℕ) → ℕ → State
row_state routes sets levels figures j = state_with (get_or routes j []) (get_or sets j []) (get_or levels j []) (figures_in (get_or figures j []))

-- the fleet of all rows
abbrev pub fleet_with : List (List ℕ) → List (List ℕ) → List (List ℕ) → List (List ℕ) → Fleet
fleet_with routes sets levels figures = fleet_of (row_state routes sets levels figures)

-- a fleet in rows: the routes of its states, their sets, their levels, and their other numbers
abbrev pub routes_in : Fleet → List (List ℕ)
routes_in f = tab most_vans (λ j. (state_in f j).route)

abbrev pub sets_in : Fleet → List (List ℕ)
sets_in f = tab most_vans (λ j. (state_in f j).sets)

abbrev pub levels_in : Fleet → List (List ℕ)
levels_in f = tab most_vans (λ j. (state_in f j).levels)

abbrev pub figures_all : Fleet → List (List ℕ)
figures_all f = tab most_vans (λ j. row_of (figures_of (state_in f j)))

-- the board in row j
abbrev pub row_board : List (List ℕ) → List (List ℕ) → List (List ℕ) → ℕ → Board
row_board routes sets figures j = let f = figures_in (get_or figures j []) in board (get_or routes j []) f.stops (get_or sets j []) f.marks f.must

-- eight rows of so many entries
pub record RowsOf (width : ℕ) (rows : List (List ℕ)) : Type 0 where
  pub eight : length rows ≡ most_vans
  pub wide : (j : ℕ) → j < most_vans → length (get_or rows j []) ≡ width

-- of a route, of sets, of levels; and of other numbers
abbrev pub Rows : List (List ℕ) → Type 0
Rows rows = RowsOf 64 rows

abbrev pub Figured : List (List ℕ) → Type 0
Figured rows = RowsOf 5 rows

-- eight rows of 64 zeros
abbrev pub Blank : List (List ℕ) → Type 0
Blank rows = rows ≡ replicate most_vans (replicate 64 0)

-- what a verdict asks of its caller: a sheet that no call refuses, where it has what, and the board of each van in form
pub record ReadyAll (sheet : List ℕ) (at : Layout) (routes sets : List (List ℕ)) (figures : List (List ℕ)) : Type 0 where
  pub clear : call_refusal sheet ≡ 0
  pub laid : Laid sheet at
  pub figured : Figured figures
  pub each : (j : ℕ) → j < vans_of sheet → Sound (n_of sheet) (row_board routes sets figures j)
  pub words : (j : ℕ) → j < vans_of sheet → Words (row_board routes sets figures j)
