-- When the van starts at its stops (01's E), the last moments at which it still may (01's L), and how far it drives.
use Rattle.std.specs.Prelude.{ℕ, ◌+◌, max, Bool, true, cond, ◌&&◌, List, [], ◌∷◌, ℤ, pos, ◌-ℤ◌}
use Rattle.std.specs.Int.Signed.{le_z}
use Rattle.rules.specs.Day.{Day}

-- E: the start at x when the van comes to it by the stops A: the larger of its earliest and (previous start + previous service + seconds)
abbrev pub start : Day → List ℕ → ℕ → ℕ
start d [] x = d.earliest x
start d (q ∷ A) x = max (d.earliest x) (start d A q + d.service q + d.seconds q x)

-- the last moment at which service at x may start, signed: the door is shut at its latest, and the cages must be in, so its latest less its
-- service (02, No. 3)
abbrev pub last_moment : Day → ℕ → ℤ
last_moment d x = pos (d.latest x) -ℤ pos (d.service x)

-- a start at x at the time t is not too late
abbrev pub in_time : Day → ℕ → ℕ → Bool
in_time d x t = le_z (pos t) (last_moment d x)

-- the smaller of two signed numbers
abbrev pub min_z : ℤ → ℤ → ℤ
min_z a b = cond (le_z a b) a b

-- L of the stop k with the stops B ahead of it: the smaller of its own last moment and L(next) − service − seconds
abbrev pub last_start : Day → List ℕ → ℕ → ℤ
last_start d [] k = last_moment d k
last_start d (m ∷ B) k = min_z (last_moment d k) (last_start d B m -ℤ pos (d.service k + d.seconds k m))

-- no start of the stops B, after the stops A, is too late
abbrev pub on_time : Day → List ℕ → List ℕ → Bool
on_time d A [] = true
on_time d A (x ∷ B) = in_time d x (start d A x) && on_time d (x ∷ A) B

-- the sum of metres along a list of stops
abbrev pub driven : Day → List ℕ → ℕ
driven d [] = 0
driven d (x ∷ []) = 0
driven d (x ∷ k ∷ B) = d.metres x k + driven d (k ∷ B)
