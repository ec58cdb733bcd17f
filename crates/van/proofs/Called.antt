-- What a call that is not refused knows of a van: the sheet is fine, its state in form, its records within its trail's room.
use Prim.Native.Nat.{ℕ}
use mathlib.Core.Path.{◌≡◌}
use mathlib.Core.Bool.{true}
use mathlib.Core.List.{List}
use Rattle.sheet.specs.Section.{n_of}
use Rattle.sheet.specs.Place.{Fine}
use Rattle.day.specs.Refuse.{call_refusal}
use Rattle.day.proofs.RefuseLaws.{call-fine}
use Rattle.board.specs.Form.{in_form, form_with}
use Rattle.board.proofs.FormLaws.{form-with}
use Rattle.board.specs.declared.State.{State}
use Rattle.records.specs.Trail.{room_of}

pub record Called (sheet : List ℕ) (s : State) (t : List ℕ) : Type 0 where
  pub read : call_refusal sheet ≡ 0
  pub form : in_form (n_of sheet) s ≡ true
  pub room : form_with (n_of sheet) s (room_of t) ≡ true
  pub fine : Fine sheet

pub call-taken : (sheet : List ℕ) (s : State) (t : List ℕ) → call_refusal sheet ≡ 0 → form_with (n_of sheet) s (room_of t) ≡ true → Called sheet s t
call-taken sheet s t z f = record { read = z; form = (form-with (n_of sheet) s (room_of t) f).0; room = f; fine = call-fine sheet z }
