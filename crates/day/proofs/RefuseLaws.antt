-- Opening checks what every call does, and a call what reading the sections does.
use Prim.Native.Nat.{ℕ}
use mathlib.Core.List.{List}
use mathlib.Core.Path.{◌≡◌}
use Rattle.laws.proofs.Choice.{or-else-zero}
use Rattle.sheet.specs.Section.{read_refusal}
use Rattle.sheet.specs.Place.{Fine}
use Rattle.sheet.proofs.PlaceLaws.{fine}
use Rattle.day.specs.Refuse.{call_refusal, open_refusal}

-- opening checks what every call does, and a call what reading the sections does
pub call-zero : (s : List ℕ) → open_refusal s ≡ 0 → call_refusal s ≡ 0
unfolding open_refusal
call-zero s h = (or-else-zero _ _ h).0

pub read-zero : (s : List ℕ) → call_refusal s ≡ 0 → read_refusal s ≡ 0
unfolding call_refusal
read-zero s h = (or-else-zero _ _ h).0

pub call-fine : (s : List ℕ) → call_refusal s ≡ 0 → Fine s
call-fine s h = fine s (read-zero s h)
