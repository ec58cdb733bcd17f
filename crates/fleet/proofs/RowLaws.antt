-- A fleet in rows: the rows filled one after another, and the fleet that they have.
use Prim.Native.Nat.{ℕ, ◌<◌}
use mathlib.Core.Path.{◌≡◌, refl, ap, ◌∙◌}
use mathlib.Core.List.{List, []}
use lib.ListN.{length, get_or}
use borrow.Author.Tests.{lt-ltb}
use Rattle.laws.specs.Basic.{tab}
use Rattle.laws.proofs.Table.{length-tab, get_or-tab}
use Rattle.laws.proofs.Turned.{Turned, tab-same, turned-all}
use Rattle.rules.specs.Numbers.{most_vans}
use Rattle.board.specs.declared.State.{State}
use Rattle.fleet.specs.Fleet.{state_in, HeldAll}
use Rattle.fleet.specs.Rows.{figures_of, row_of, row_state, fleet_with, routes_in, sets_in, levels_in, figures_all, RowsOf, Rows, Figured}
use Rattle.fleet.specs.declared.Fleet.{Fleet}
use Rattle.fleet.proofs.FleetLaws.{fleet_made, state-of, fleet-eight, fleet-same}

-- when all places are rewritten
pub turned-end : {A : Type 0} {n j : ℕ} {f g : ℕ → A} {d : A} {l : List A} → Turned n f g d j l → j ≡ n → l ≡ tab n f
turned-end {n = n} p e = turned-all p ∙ tab-same n _ _ (λ k h. rw (e, lt-ltb k n h) refl)

-- of the first j states a part is taken into rows
abbrev pub Taking : (State → List ℕ) → List State → List (List ℕ) → ℕ → List (List ℕ) → Type 0
Taking part vans old j rows = Turned most_vans (λ k. part (state_in (fleet_made vans) k)) (λ k. get_or old k []) [] j rows

-- the rows of a fleet have it
pub fleet-rows : (f : Fleet) → length f.vans ≡ most_vans → fleet_with (routes_in f) (sets_in f) (levels_in f) (figures_all f) ≡ f
fleet-rows f e = fleet-same (fleet_with (routes_in f) (sets_in f) (levels_in f) (figures_all f)) f (fleet-eight _) e (λ j h. state-of (row_state (routes_in f) (sets_in f) (levels_in f) (figures_all f)) j h ∙ row j h)
  where
    row : (j : ℕ) → j < most_vans → row_state (routes_in f) (sets_in f) (levels_in f) (figures_all f) j ≡ state_in f j
    row j h = rw (
      get_or-tab most_vans (λ j. (state_in f j).route) [] j h,
      get_or-tab most_vans (λ j. (state_in f j).sets) [] j h,
      get_or-tab most_vans (λ j. (state_in f j).levels) [] j h,
      get_or-tab most_vans (λ j. row_of (figures_of (state_in f j))) [] j h,
    ) refl

-- they are as long as they have to be
rows-tab : (w : ℕ) (g : ℕ → List ℕ) → ((j : ℕ) → j < most_vans → length (g j) ≡ w) → RowsOf w (tab most_vans g)
rows-tab w g e = record { eight = length-tab most_vans g; wide = λ j h. ap length (get_or-tab most_vans g [] j h) ∙ e j h }

pub rows-wide : (f : Fleet) → HeldAll f → Rows (routes_in f) × Rows (sets_in f) × Rows (levels_in f) × Figured (figures_all f)
rows-wide f held = (
  rows-tab 64 (λ j. (state_in f j).route) (λ j h. (held.each j h).wide.route),
  rows-tab 64 (λ j. (state_in f j).sets) (λ j h. (held.each j h).wide.sets),
  rows-tab 64 (λ j. (state_in f j).levels) (λ j h. (held.each j h).levels),
  rows-tab 5 (λ j. row_of (figures_of (state_in f j))) (λ j h. refl),
)
