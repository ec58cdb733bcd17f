-- Where each node stands on a route of n stops in an array.
use Rattle.std.specs.Prelude.{◌≡◌, ℕ, zero, suc, cond, List, eqb, get_or, length}

-- the stop of the first n at which x stands; 64 where it stands at none
unfoldable pub spot : List ℕ → ℕ → ℕ → ℕ
spot l zero x = 64
spot l (suc n) x = cond (eqb (get_or l n 0) x) n (spot l n x)

-- ---- the array of all spots

pub record Spots (l : List ℕ) (n : ℕ) (a : List ℕ) : Type 0 where
  pub long : length a ≡ 64
  pub at : (x : ℕ) → get_or a x 64 ≡ spot l n x
