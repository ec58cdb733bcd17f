-- What settling and the verdict ask of their caller: a sheet, and a state in form in arrays.
use Rattle.std.specs.Prelude.{◌≡◌, ℕ, ◌≤◌, List, length}
use Rattle.rules.specs.Asked.{Formed}
use Rattle.sheet.specs.Place.{Laid}
use Rattle.sheet.specs.declared.Layout.{Layout}
use Rattle.day.specs.Refuse.{call_refusal}
use Rattle.day.specs.Tell.{day_of}
use Rattle.along.specs.Sets.{plan_from}

-- a sheet that no call refuses, where it has what, and a state in form in arrays: route, sets, marks
pub record Ready (s : List ℕ) (at : Layout) (l : List ℕ) (n : ℕ) (ws : List ℕ) (marks : ℕ) : Type 0 where
  pub clear : call_refusal s ≡ 0
  pub laid : Laid s at
  pub long : length l ≡ 64
  pub sized : length ws ≡ 64
  pub most : n ≤ 64
  pub form : Formed (day_of s) (plan_from l n ws marks)
