-- A step along the route.
use Rattle.std.specs.Prelude.{ℕ, max, ◌+◌}
use Rattle.rules.specs.Day.{Day}

-- ---- E

-- the start at x of a van that leaves p at u
abbrev pub reached : Day → ℕ → ℕ → ℕ → ℕ
reached d u p x = max (d.earliest x) (u + d.seconds p x)
