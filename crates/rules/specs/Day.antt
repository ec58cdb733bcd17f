-- What a sheet says: the day, which all vans share, and the rule for its tables. (The van is declared in src/.)
use Rattle.std.specs.Prelude.{ℕ, zero, suc, ◌+◌, ◌-◌, Bool, ◌&&◌, ◌||◌, List, [], ◌∷◌, leb, ltb, eqb}
use Rattle.laws.specs.Basic.{all_below}
use Rattle.rules.specs.declared.Job.{Job}

-- sections 2 to 5: n nodes, node 0 the start, node n − 1 the end; the jobs; the tables; and whether the sheet has the profile, the last word of
-- section 1
pub record Day : Type 0 where
  pub n : ℕ
  pub earliest : ℕ → ℕ
  pub latest : ℕ → ℕ
  pub service : ℕ → ℕ
  pub seconds : ℕ → ℕ → ℕ
  pub metres : ℕ → ℕ → ℕ
  pub jobs : List Job
  pub profile : Bool

-- m, m − 1, .. 1
abbrev pub down_from : ℕ → List ℕ
down_from zero = []
down_from (suc m) = suc m ∷ down_from m

-- x is between 1 and n − 2, of n nodes
unfoldable pub is_inner : ℕ → ℕ → Bool
is_inner n x = leb 1 x && ltb (x + 1) n

-- the nodes 1 to n − 2
abbrev pub inner : Day → List ℕ
inner d = down_from (d.n - 2)

-- i, j, k are not three different, or (i, k) is at most (i, j) + (j, k)
abbrev pub shortest_at : (ℕ → ℕ → ℕ) → ℕ → ℕ → ℕ → Bool
shortest_at t i j k = eqb i j || eqb j k || eqb i k || leb (t i k) (t i j + t j k)

-- the rule for every k
unfoldable pub shortest_line : ℕ → (ℕ → ℕ → ℕ) → ℕ → ℕ → Bool
shortest_line n t i j = all_below n (shortest_at t i j)

-- the same for every j and k
unfoldable pub shortest_row : ℕ → (ℕ → ℕ → ℕ) → ℕ → Bool
shortest_row n t i = all_below n (shortest_line n t i)

-- for every i, j and k: "for some three different i, j, k: seconds or metres (i, k) above (i, j) + (j, k)" is not so
unfoldable pub triangle : ℕ → (ℕ → ℕ → ℕ) → Bool
triangle n t = all_below n (shortest_row n t)
