-- What is known of a call whose fleet was taken into rows: as it is asked, and once nothing refuses it.
use Prim.Native.Nat.{ℕ}
use mathlib.Core.Path.{◌≡◌, sym, ap, ◌∙◌}
use mathlib.Core.Bool.{Bool, true, ◌&&◌}
use mathlib.Core.List.{List, []}
use lib.ListN.{get_or}
use Rattle.laws.specs.Basic.{all_below, sum_below}
use Rattle.rules.specs.Fleet.{alive_all}
use Rattle.sheet.specs.Section.{n_of, vans_of}
use Rattle.sheet.specs.Place.{Laid}
use Rattle.sheet.specs.declared.Layout.{Layout}
use Rattle.day.specs.Refuse.{call_refusal}
use Rattle.day.specs.Tell.{day_of, van_of}
use Rattle.board.specs.Board.{places_of}
use Rattle.fleet.specs.Form.{in_form_all}
use Rattle.fleet.specs.Rows.{fleet_with, Rows, Figured, ReadyAll}
use Rattle.fleet.specs.Sums.{places_all, all_served}
use Rattle.fleet.specs.declared.Fleet.{Fleet}
use Rattle.planner.specs.Asked.{Sized, lives}
use Rattle.planner.specs.Face.{ask_refusal, plans_of}
use Rattle.planner.proofs.Answers.{ask-clear}
use Rattle.planner.proofs.AskLaws.{sized}
use Rattle.planner.proofs.RowFacts.{Taken, rows-ready, places-asked, lives_all}

module _ {sheet : List ℕ} {f : Fleet} {routes sets levels figures : List (List ℕ)} {at : Layout} (call : call_refusal sheet ≡ 0) (l : Laid sheet at) (t : Taken f routes sets levels figures) where
  pub askable : Sized at × Rows routes × Rows sets × Figured figures
  askable = let r = t.rows in (sized l, r.0, r.1, r.3)

  module _ {k : ℕ} (asks : (sheet : List ℕ) → call_refusal sheet ≡ 0 → Laid sheet at → k ≡ ask_refusal sheet (fleet_with routes sets levels figures)) where
    pub asked_for : k ≡ ask_refusal sheet f
    asked_for = asks sheet call l ∙ ap (λ (f : Fleet). ask_refusal sheet f) t.is

    module _ (z : 0 ≡ k) where
      form : in_form_all (n_of sheet) (vans_of sheet) (fleet_with routes sets levels figures) ≡ true
      form = (ask-clear _ _ (sym (z ∙ asks sheet call l))).1

      pub ready-asked : ReadyAll sheet at routes sets figures
      ready-asked = rows-ready call l routes sets levels figures t.rows.3 t.held form

      pub places-counted : sum_below at.vans (λ j. places_of (get_or sets j []) at.nodes) ≡ places_all (vans_of sheet) f
      places-counted = places-asked call l routes sets levels figures t.rows.3 t.held form ∙ ap (λ (f : Fleet). places_all (vans_of sheet) f) t.is

      -- the verdict by what the vans say and by the wards that must go somewhere
      pub all-judged : {alive : Bool} → alive ≡ all_below (vans_of sheet) (lives sheet (fleet_with routes sets levels figures))
          → (alive && all_served (vans_of sheet) (fleet_with routes sets levels figures)) ≡ alive_all (van_of sheet) (day_of sheet) (plans_of sheet f)
      all-judged p =
          ap (λ (b : Bool). b && all_served (vans_of sheet) (fleet_with routes sets levels figures)) p
          ∙ lives_all call l routes sets levels figures t.rows.3 t.held form
          ∙ ap (λ (f : Fleet). alive_all (van_of sheet) (day_of sheet) (plans_of sheet f)) t.is
