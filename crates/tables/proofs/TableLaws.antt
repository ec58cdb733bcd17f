-- The rows of a table in the sheet: where they lie, and that their entries are in range.
use Prim.Native.Nat.{ℕ, ◌+◌, ◌*◌, ◌<◌, ◌≤◌}
use mathlib.Core.Path.{◌≡◌, ap, ◌∙◌}
use mathlib.Core.Bool.{true}
use mathlib.Core.List.{List}
use native.Mathlib.Omega.{arith}
use native.Mathlib.Nat.{suc-mul, mul-le-mul_right, add_assoc}
use lib.Dec.{leb}
use borrow.Author.Tests.{leb-true}
use Rattle.laws.proofs.Below.{below_at, below-make}
use Rattle.laws.specs.Basic.{all_below}
use Rattle.words.specs.Word.{word_at, entry_ok}
use Rattle.tables.specs.Cell.{cell, Table}

-- a row ends where the next begins, or before
pub row_before : (w : ℕ) {i j : ℕ} → j < i → j * w + w ≤ i * w
row_before w {i} {j} h = omega (arith, suc-mul j w, mul-le-mul_right w h)

-- a row lies in the table
pub row-end : (n i : ℕ) → i < n → i * n + n ≤ n * n
row-end n i h = row_before n h

-- each entry of a table is in range, so each of a row is
pub row_low : (s : List ℕ) (from n i : ℕ) → all_below (n * n) (entry_ok s from) ≡ true → i < n → all_below n (entry_ok s (from + i * n)) ≡ true
row_low s from n i e h =
    below-make n (entry_ok s (from + i * n))
    (λ k l. ap (λ (p : ℕ). leb (word_at s p) 1000000) (add_assoc from (i * n) k) ∙ below_at (n * n) (i * n + k) (entry_ok s from) e (omega (arith, row-end n i h)))

pub entry-low : (s : List ℕ) (at n k : ℕ) → all_below n (entry_ok s at) ≡ true → k < n → word_at s (at + k) ≤ 1000000
entry-low s at n k e h = leb-true _ _ (below_at n k (entry_ok s at) e h)

pub cell-low : {s : List ℕ} {from n : ℕ} → Table s from n → (i k : ℕ) → i < n → k < n → cell s from n i k ≤ 1000000
unfolding cell
cell-low {s} {from} {n} t i k h l = entry-low s (from + i * n) n k (row_low s from n i t.low h) l
