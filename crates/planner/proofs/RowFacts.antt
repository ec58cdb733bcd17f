-- A fleet taken into rows, and what the rows of a fleet in form are known by.
use Prim.Native.Nat.{ℕ, ◌<◌}
use mathlib.Core.Path.{◌≡◌, sym, ap, subst, ◌∙◌}
use mathlib.Core.Bool.{true, ◌&&◌}
use mathlib.Core.List.{List, []}
use lib.ListN.{get_or}
use native.Mathlib.Omega.{arith}
use Rattle.laws.specs.Basic.{all_below, sum_below}
use Rattle.laws.proofs.Sum.{sum_same}
use Rattle.rules.specs.Numbers.{most_vans}
use Rattle.rules.specs.Fleet.{alive_all}
use Rattle.rules.specs.Verdict.{alive}
use Rattle.sheet.specs.Section.{n_of, vans_of}
use Rattle.sheet.specs.Place.{Laid}
use Rattle.sheet.specs.declared.Layout.{Layout}
use Rattle.day.specs.Refuse.{call_refusal}
use Rattle.day.specs.Tell.{day_of, van_of}
use Rattle.board.specs.Board.{board_of, places_of}
use Rattle.board.specs.Held.{Held, Sound}
use Rattle.board.specs.declared.State.{State}
use Rattle.board.proofs.EndLaws.{sets_end, places-end}
use Rattle.van.specs.Act.{plan_in}
use Rattle.fleet.specs.Fleet.{state_in, board_in, HeldAll}
use Rattle.fleet.specs.Form.{in_form_all}
use Rattle.fleet.specs.Rows.{row_state, fleet_with, routes_in, sets_in, levels_in, figures_all, ReadyAll, Rows, Figured}
use Rattle.fleet.specs.Sums.{places_all, all_served, plans_in}
use Rattle.fleet.specs.declared.Fleet.{Fleet}
use Rattle.fleet.proofs.FleetLaws.{state-of}
use Rattle.fleet.proofs.RowLaws.{fleet-rows, rows-wide}
use Rattle.fleet.proofs.FormLaws.{in-form-all}
use Rattle.fleet.proofs.PlanLaws.{van-sound, alive-all}
use Rattle.planner.specs.Asked.{lives}

-- the rows have the fleet that a call was handed
pub record Taken (f : Fleet) (routes sets levels figures : List (List ℕ)) : Type 0 where
  pub is : fleet_with routes sets levels figures ≡ f
  pub rows : Rows routes × Rows sets × Rows levels × Figured figures
  pub held : HeldAll (fleet_with routes sets levels figures)

pub rows_taken : (f : Fleet) {routes sets levels figures : List (List ℕ)} → HeldAll f → routes ≡ routes_in f → sets ≡ sets_in f → levels ≡ levels_in f → figures ≡ figures_all f
    → Taken f routes sets levels figures
rows_taken f held r s l g = rw (r, s, l, g) (let e = fleet-rows f held.eight in record { is = e; rows = rows-wide f held; held = subst HeldAll (sym e) held })

module _ {sheet : List ℕ} {at : Layout} (z : call_refusal sheet ≡ 0) (l : Laid sheet at) (routes sets levels figures : List (List ℕ)) (five : Figured figures)
    (held : HeldAll (fleet_with routes sets levels figures)) (form : in_form_all (n_of sheet) (vans_of sheet) (fleet_with routes sets levels figures) ≡ true) where
  abbrev f : Fleet
  f = fleet_with routes sets levels figures

  low : (j : ℕ) → j < vans_of sheet → j < most_vans
  low j h = omega (arith, h, l.fine.vans-high)

  state-held : (j : ℕ) → j < vans_of sheet → Held (state_in f j)
  state-held j h = held.each j (low j h)

  state-sound : (j : ℕ) → j < vans_of sheet → Sound (n_of sheet) (board_in f j)
  state-sound j h = van-sound (n_of sheet) (state_in f j) l.fine.n-high (state-held j h) ((in-form-all (n_of sheet) (vans_of sheet) f l.fine.n-high l.fine.vans-high form).each j h)

  row : (P : State → Type 0) (j : ℕ) → j < vans_of sheet → P (state_in f j) → P (row_state routes sets levels figures j)
  row P j h = subst P (state-of (row_state routes sets levels figures) j (low j h))

  pub rows-ready : ReadyAll sheet at routes sets figures
  rows-ready = record {
    clear = z;
    laid = l;
    figured = five;
    each = λ j h. row (λ s. Sound (n_of sheet) (board_of s)) j h (state-sound j h);
    words = λ j h. (row Held j h (state-held j h)).words;
  }

  -- the places of the nodes are all there are
  pub places-asked : sum_below at.vans (λ j. places_of (get_or sets j []) at.nodes) ≡ places_all (vans_of sheet) f
  unfolding places_all
  places-asked =
      rw (l.vans, l.nodes) (sum_same (vans_of sheet) _ _ (λ j h.
      ap (λ (s : State). places_of s.sets (n_of sheet)) (sym (state-of (row_state routes sets levels figures) j (low j h)))
      ∙ places-end (n_of sheet) _ l.fine.n-high (sets_end (n_of sheet) (board_in f j) (state-sound j h))))

  -- the verdict, by every van's and by the wards that must go somewhere
  pub lives_all : all_below (vans_of sheet) (lives sheet f) && all_served (vans_of sheet) f ≡ alive_all (van_of sheet) (day_of sheet) (plans_in (vans_of sheet) f)
  lives_all = sym (alive-all (day_of sheet) (vans_of sheet) f l.fine.vans-low state-sound (λ j h. (state-held j h).words) (van_of sheet))

-- van j of the rows is alive if van j of the fleet is
pub row-lives : (sheet : List ℕ) (routes sets levels figures : List (List ℕ)) (j : ℕ) → j < most_vans
    → alive (van_of sheet j) (day_of sheet) (plan_in (row_state routes sets levels figures j)) ≡ lives sheet (fleet_with routes sets levels figures) j
row-lives sheet routes sets levels figures j h =
    ap (λ (s : State). alive (van_of sheet j) (day_of sheet) (plan_in s)) (sym (state-of (row_state routes sets levels figures) j h))
