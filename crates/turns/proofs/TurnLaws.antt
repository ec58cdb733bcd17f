-- One van's turn: what it asks, and that it keeps the length of its part of the trail.
use mathlib.Core.Path.{◌≡◌}
use mathlib.Core.Bool.{false}
use mathlib.Core.List.{List}
use mathlib.Core.Logic.{◌≢◌}
use Prim.Native.Nat.{ℕ}
use borrow.Author.Tests.{ne_eqb}
use Rattle.rules.specs.Numbers.{kinds}
use Rattle.rules.specs.declared.Step.{Step}
use Rattle.board.specs.Board.{board_of}
use Rattle.board.specs.Held.{Sound}
use Rattle.board.proofs.FormLaws.{in-form, form-with}
use Rattle.board.specs.declared.State.{State}
use Rattle.records.specs.Trail.{room_of}
use Rattle.trail.specs.Refusals.{exclude_refusal}
use Rattle.turns.specs.Turn.{Turning}

-- ---- what a turn asks

pub turning-sound : {n : ℕ} {step : Step} {j : ℕ} {s : State} {t : List ℕ} → Turning n step j s t → Sound n (board_of s)
turning-sound {n} {step} {j} {s} {t} g = record {
  small = g.small;
  wide = g.held.wide;
  form = (in-form n s g.small g.held.wide (form-with n s (room_of t) g.form).0).board;
}

-- a van that does not place is not refused
pub exclude-free : {n : ℕ} {step : Step} {j : ℕ} {s : State} {t : List ℕ} → Turning n step j s t → step.kind ≡ kinds.PLACE → j ≢ step.van
    → exclude_refusal n (board_of s) s.records (room_of t) false step.second ≡ 0
exclude-free g k e = rw (ne_eqb _ _ e) at (g.free k)
