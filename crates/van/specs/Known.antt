-- What a step asks of its caller, once the refusals of a call are asked.
use Rattle.std.specs.Prelude.{◌≡◌, true, List, ℕ}
use Rattle.sheet.specs.Section.{n_of}
use Rattle.sheet.specs.Place.{Laid}
use Rattle.sheet.specs.declared.Layout.{Layout}
use Rattle.day.specs.Refuse.{call_refusal}
use Rattle.board.specs.Form.{form_with}
use Rattle.board.specs.Held.{Held}
use Rattle.board.specs.declared.State.{State}
use Rattle.records.specs.Trail.{room_of}

-- a sheet that no call refuses, where it has what, and a state in form, its records within the trail's room
pub record Known (sheet : List ℕ) (at : Layout) (s : State) (t : List ℕ) : Type 0 where
  pub clear : call_refusal sheet ≡ 0
  pub laid : Laid sheet at
  pub form : form_with (n_of sheet) s (room_of t) ≡ true
  pub held : Held s
