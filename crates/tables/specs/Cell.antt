-- A table of a sheet: "row by row", n entries to a row.
use Rattle.std.specs.Prelude.{ℕ, ◌+◌, ◌*◌, ◌≤◌, ◌≡◌, true, List}
use Rattle.laws.specs.Basic.{all_below}
use Rattle.words.specs.Word.{words, word_at, entry_ok}

-- row i, column j of a table of n rows whose entries begin at word `from`
unfoldable pub cell : List ℕ → ℕ → ℕ → ℕ → ℕ → ℕ
cell s from n i j = word_at s (from + i * n + j)

-- a table of n rows whose entries begin at word `from` lies in the sheet, and each entry is in range
pub record Table (s : List ℕ) (from n : ℕ) : Type 0 where
  pub rows : n ≤ 64
  pub room : from + n * n ≤ words s
  pub low : all_below (n * n) (entry_ok s from) ≡ true
