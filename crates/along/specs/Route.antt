-- What a route in an array is.
use Rattle.std.specs.Prelude.{◌≡◌, ℕ, ◌≤◌, List, take, length}
use Rattle.rules.specs.Rounds.{Distinct}

-- the first n entries of an array of 64 are distinct nodes of a day of k
pub record Route (k : ℕ) (l : List ℕ) (n : ℕ) : Type 0 where
  pub long : length l ≡ 64
  pub some : 2 ≤ n
  pub most : n ≤ 64
  pub nodes : Distinct k (take n l)
