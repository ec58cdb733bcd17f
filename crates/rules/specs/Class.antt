-- Van classes (02, No. 7). No rule of a round reads them: what is open in the fresh state does, and what refuses a sheet.
use Rattle.std.specs.Prelude.{ℕ, ◌^◌, Bool, not, ◌&&◌, leb, eqb}
use Rattle.std.specs.Int.Bits.{bit_and}
use Rattle.laws.specs.Basic.{any_below}

-- "one of the eight bits (1, 2, .. 128)"
unfoldable pub one_bit : ℕ → Bool
one_bit bit = any_below 8 (λ k. eqb bit (2 ^ k))

-- "a class set of 8 bits (1 to 255)"
abbrev pub class_set : ℕ → Bool
class_set set = leb 1 set && leb set 255

-- a node with this class set admits a van of this bit: the set does not lack it
unfoldable pub admits : ℕ → ℕ → Bool
admits set bit = not (eqb (bit_and set bit) 0)
