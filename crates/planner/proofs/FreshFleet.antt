-- The fresh fleet of a sheet: it is in form, and which sets of rounds belong to it.
use Prim.Native.Nat.{ℕ, ◌≤◌, ◌<◌}
use mathlib.Core.Path.{◌≡◌, refl, sym, ap, ◌∙◌}
use mathlib.Core.Bool.{false, cond}
use mathlib.Core.List.{List}
use native.Mathlib.Omega.{arith}
use lib.Dec.{ltb}
use lib.ListN.{length-replicate, get_or-replicate}
use borrow.Author.Tests.{ltb-true, ltb-false, lt-ltb, le-ltb}
use Rattle.laws.proofs.Logic.{decided}
use Rattle.sheet.specs.Section.{n_of, vans_of}
use Rattle.sheet.specs.Place.{Fine}
use Rattle.day.specs.Refuse.{call_refusal}
use Rattle.day.proofs.RefuseLaws.{call-fine}
use Rattle.day.specs.Tell.{day_of, admitted}
use Rattle.bits.specs.Places.{has}
use Rattle.bits.proofs.Members.{false-true, has-none}
use Rattle.rules.specs.Numbers.{most_vans}
use Rattle.rules.specs.Plan.{fresh}
use Rattle.rules.proofs.FleetRounds.{SamePlans, sets_same}
use Rattle.rules.proofs.FreshRounds as rounds
use Rattle.board.specs.Board.{board_of, on_route, set_of}
use Rattle.board.specs.Fresh.{no_state, fresh_state}
use Rattle.board.specs.Held.{Held}
use Rattle.board.specs.declared.State.{State}
use Rattle.board.proofs.FreshForm.{fresh-is, fresh_made, fresh-off, fresh-held}
use Rattle.board.proofs.FreshForm as board
use Rattle.stands.proofs.Fresh.{fresh-stands}
use Rattle.van.specs.Act.{plan_in}
use Rattle.fleet.specs.Fleet.{state_in, fresh_fleet, HeldAll}
use Rattle.fleet.proofs.FleetLaws.{state-of, fleet-eight, none-idle}
use Rattle.fleet.proofs.FormLaws.{FleetForm, in-form-all-make}
use Rattle.planner.specs.Face.{fresh_of, plans_of}
use Rattle.planner.specs.Promises.{FreshInForm, FreshSets}

none-held : Held no_state
unfolding no_state set_of
none-held = record {
  wide = record { route = length-replicate {A = ℕ} 64 0; sets = length-replicate {A = ℕ} 64 0 };
  levels = length-replicate {A = ℕ} 64 0;
  words = record { fits = λ y l. rw (get_or-replicate {A = ℕ} 64 y 0 0 l) (omega arith); marks = omega arith; must = omega arith };
}

module _ (sheet : List ℕ) (z : call_refusal sheet ≡ 0) where
  fine : Fine sheet
  fine = call-fine sheet z

  abbrev states : ℕ → State
  states j = cond (ltb j (vans_of sheet)) (fresh_state (n_of sheet) (admitted sheet j)) no_state

  -- each van is fresh, and what is no van has every number 0
  pub fresh-state : (j : ℕ) → j < vans_of sheet → state_in (fresh_of sheet) j ≡ fresh_state (n_of sheet) (admitted sheet j)
  unfolding fresh_fleet
  fresh-state j l = state-of states j (omega (arith, l, fine.vans-high)) ∙ rw (lt-ltb j (vans_of sheet) l)

  pub fresh-van : (j : ℕ) → j < vans_of sheet → state_in (fresh_of sheet) j ≡ fresh_made (n_of sheet) (admitted sheet j)
  fresh-van j l = fresh-state j l ∙ fresh-is (n_of sheet) (admitted sheet j)

  fresh-spare : (j : ℕ) → vans_of sheet ≤ j → j < most_vans → state_in (fresh_of sheet) j ≡ no_state
  unfolding fresh_fleet
  fresh-spare j h m = state-of states j m ∙ rw (le-ltb j (vans_of sheet) h) refl

  fresh-all : FleetForm (n_of sheet) (vans_of sheet) (fresh_of sheet)
  fresh-all = record {
    each = λ j l. rw (fresh-state j l) (board.fresh-in-form (n_of sheet) (admitted sheet j) fine.n-low fine.n-high);
    depth = λ j l. ap (λ (s : State). s.depth) (fresh-van j l) ∙ sym (ap (λ (s : State). s.depth) (fresh-van 0 fine.vans-low));
    must = λ j l ne. ap (λ (s : State). s.must) (fresh-van j l);
    rest = λ j h m. rw (fresh-spare j h m) none-idle;
    apart = λ i j y l k ne inn on. absurd (false-true
        (sym (ap (λ (s : State). on_route (board_of s) y) (fresh-van i l) ∙ fresh-off (n_of sheet) (admitted sheet i) fine.n-low fine.n-high y inn) ∙ on));
  }

  fresh-held-all : HeldAll (fresh_of sheet)
  unfolding fresh_fleet
  fresh-held-all = record {
    eight = fleet-eight states;
    each = λ j m. decided (ltb j (vans_of sheet))
        (λ e. rw (fresh-van j (ltb-true j (vans_of sheet) e)) (fresh-held (n_of sheet) (admitted sheet j) fine.n-low fine.n-high))
        (λ e. rw (fresh-spare j (ltb-false j (vans_of sheet) e) m) none-held);
  }

  -- the plans that the vans stand for
  fresh-plans : SamePlans (plans_of sheet (fresh_of sheet)) (record { vans = vans_of sheet; plan = λ j. fresh (day_of sheet) (admitted sheet j); must = λ x. false })
  fresh-plans = record {
    vans = refl;
    plan = λ j l. ap plan_in (fresh-van j l) ∙ fresh-stands (day_of sheet) (admitted sheet j) fine.n-low fine.n-high;
    must = λ x. ap (λ (s : State). has s.must x) (fresh-van 0 fine.vans-low) ∙ has-none x;
  }

pub fresh-in-form : FreshInForm
fresh-in-form sheet z = (in-form-all-make (n_of sheet) (vans_of sheet) (fresh_of sheet) (fine sheet z).vans-high (fresh-all sheet z), fresh-held-all sheet z)

pub fresh-sets : FreshSets
fresh-sets sheet z R = sets_same (day_of sheet) R (fresh-plans sheet z) (rounds.fresh-sets (day_of sheet) (vans_of sheet) (admitted sheet) (fine sheet z).n-low R)
