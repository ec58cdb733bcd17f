-- A set of places in a word: bit p for place p (01, State). A word is a number below 2 ^ 64, and no place past 63 is ever put in.
use Rattle.std.specs.Prelude.{Bool, cond, not, ◌||◌, ℕ, ◌+◌, ◌-◌, ◌/◌, ◌%◌, ◌^◌, eqb, ltb}
use Rattle.std.specs.Int.Bits.{bit_and, bit_or}
use Rattle.std.specs.Int.Count.{count_trailing_zeros}
use Rattle.laws.specs.Basic.{all_below}

-- the digit of w at place p, 0 or 1
unfoldable pub digit : ℕ → ℕ → ℕ
digit w p = w / 2 ^ p % 2

-- whether p is a member of w
unfoldable pub has : ℕ → ℕ → Bool
has w p = eqb (digit w p) 1

-- w with p as a member too
unfoldable pub with : ℕ → ℕ → ℕ
with w p = cond (has w p) w (cond (ltb p 64) (w + 2 ^ p) w)

-- w without p
unfoldable pub without : ℕ → ℕ → ℕ
without w p = cond (has w p) (w - 2 ^ p) w

-- the members of a that are none of b
unfoldable pub minus : ℕ → ℕ → ℕ
minus a b = bit_and a (2 ^ 64 - 1 - b)

-- the members of both
unfoldable pub join : ℕ → ℕ → ℕ
join a b = bit_or a b

-- each member of a is one of b
unfoldable pub within : ℕ → ℕ → Bool
within a b = all_below 64 (λ p. not (has a p) || has b p)

-- the least member of w, 64 where it has none
unfoldable pub lowest : ℕ → ℕ
lowest w = count_trailing_zeros 64 w
