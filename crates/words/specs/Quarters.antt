-- For contracts: a stretch looked at in four quarters side by side.
use Rattle.std.specs.Prelude.{ℕ, ◌+◌}
use Rattle.std.specs.Int.Bits.{bit_or}

-- the or of four entries, each `part` behind the one before
abbrev pub or_of_four : (ℕ → ℕ) → ℕ → ℕ → ℕ
or_of_four f at part = bit_or (bit_or (bit_or (f at) (f (at + part))) (f (at + part + part))) (f (at + part + part + part))
