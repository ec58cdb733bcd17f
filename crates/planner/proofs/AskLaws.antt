-- Asking a call on a sheet that none refuses: refused for the form, or not at all.
use Prim.Native.Nat.{ℕ}
use mathlib.Core.Path.{◌≡◌, refl}
use mathlib.Core.Bool.{true, false}
use mathlib.Core.List.{List}
use native.Mathlib.Omega.{arith}
use Rattle.laws.specs.Basic.{or_else}
use Rattle.laws.proofs.Choice.{first_stops}
use Rattle.rules.specs.Numbers.{refusal}
use Rattle.sheet.specs.Section.{n_of, vans_of}
use Rattle.sheet.specs.Place.{Laid}
use Rattle.sheet.specs.declared.Layout.{Layout}
use Rattle.day.specs.Refuse.{call_refusal}
use Rattle.fleet.specs.Form.{in_form_all}
use Rattle.fleet.specs.declared.Fleet.{Fleet}
use Rattle.planner.specs.Face.{ask_refusal}
use Rattle.planner.specs.Asked.{Sized}

-- what an accepted sheet has
pub sized : {sheet : List ℕ} {at : Layout} → Laid sheet at → Sized at
sized l = record {
  some = omega (arith, l.vans, l.fine.vans-low);
  most = omega (arith, l.vans, l.fine.vans-high);
  two = omega (arith, l.nodes, l.fine.n-low);
  small = omega (arith, l.nodes, l.fine.n-high);
}

-- a sheet that no call refuses: the call is refused by the form alone
module _ (sheet : List ℕ) (z : call_refusal sheet ≡ 0) (f : Fleet) where
  pub ask-taken : in_form_all (n_of sheet) (vans_of sheet) f ≡ true → 0 ≡ ask_refusal sheet f
  unfolding ask_refusal or_else
  ask-taken q = rw (z, q) refl

  pub ask-form : in_form_all (n_of sheet) (vans_of sheet) f ≡ false → refusal.FORM ≡ ask_refusal sheet f
  unfolding ask_refusal or_else
  ask-form q = rw (z, q) refl

-- a refused sheet: the call is refused as the sheet is
pub sheet-first : (sheet : List ℕ) (f : Fleet) (k : ℕ) → k ≡ call_refusal sheet → (k ≡ 0 → ⊥) → k ≡ ask_refusal sheet f
unfolding ask_refusal
sheet-first sheet f k e n = first_stops _ e n
