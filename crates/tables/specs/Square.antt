-- A table held as numbers, its rows one after another in a list, and what the code asks of two of them, both ways round. Each pair of rows is asked once,
-- and every k alike: where k is i or j, or behind the end of a row, 0 is held, and the test passes.
use Rattle.std.specs.Prelude.{ℕ, ◌+◌, ◌*◌, ◌/◌, ◌<◌, ◌≤◌, ◌≡◌, Bool, cond, ◌&&◌, List, length, get_or, leb, ltb, eqb}
use Rattle.laws.specs.Basic.{all_below}

-- how many entries a row is made up to: n, or the next multiple of 8
abbrev pub wide_of : ℕ → ℕ
wide_of n = (n + 7) / 8 * 8

-- entry k of row i of a table t of n rows, as it is held
abbrev pub held : ℕ → (ℕ → ℕ → ℕ) → ℕ → ℕ → ℕ
held n t i k = cond (eqb k i) 0 (cond (ltb k n) (t i k) 0)

-- no entry is above what one of a table may be
pub record InRange (l : List ℕ) : Type 0 where
  pub low : (q : ℕ) → get_or l q 0 ≤ 1000000

-- every entry is 0
pub record Cleared (l : List ℕ) : Type 0 where
  pub zero : (q : ℕ) → get_or l q 0 ≡ 0

-- r is l with n entries f from `to` on
pub record Copied (l : List ℕ) (to n : ℕ) (f : ℕ → ℕ) (r : List ℕ) : Type 0 where
  pub long : length r ≡ length l
  pub at : (k : ℕ) → k < n → get_or r (to + k) 0 ≡ f k
  pub before : (q : ℕ) → q < to → get_or r q 0 ≡ get_or l q 0
  pub behind : (q : ℕ) → to + n ≤ q → get_or r q 0 ≡ get_or l q 0

-- the first i rows of the table are held, in rows of w entries; the rest is 0
pub record Squared (n w : ℕ) (t : ℕ → ℕ → ℕ) (i : ℕ) (l : List ℕ) : Type 0 where
  pub low : InRange l
  pub at : (r : ℕ) → r < i → (k : ℕ) → k < w → get_or l (r * w + k) 0 ≡ held n t r k
  pub rest : (q : ℕ) → i * w ≤ q → get_or l q 0 ≡ 0

-- what the code asks of entry k of the rows that begin at a and b, with the ways there and back between them
abbrev pub line_ok : List ℕ → ℕ → ℕ → ℕ → ℕ → ℕ → Bool
line_ok l there back a b k = leb (get_or l (a + k) 0) (there + get_or l (b + k) 0) && leb (get_or l (b + k) 0) (back + get_or l (a + k) 0)

-- the same of rows i and j
unfoldable pub entry_asked : List ℕ → ℕ → ℕ → ℕ → ℕ → Bool
entry_asked l w i j k = line_ok l (get_or l (i * w + j) 0) (get_or l (j * w + i) 0) (i * w) (j * w) k

-- of m entries from k on
abbrev pub strip_ok : List ℕ → ℕ → ℕ → ℕ → ℕ → ℕ → Bool
strip_ok l w i k m j = all_below m (λ v. entry_asked l w i j (k + v))

-- of row i and every row before it
abbrev pub row_ok : List ℕ → ℕ → ℕ → Bool
row_ok l w i = all_below i (λ j. all_below w (entry_asked l w i j))
