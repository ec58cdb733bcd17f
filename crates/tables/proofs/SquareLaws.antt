-- A table is read into a square, row after row: the law of the loop that does it.
use Prim.Native.Nat.{ℕ, ◌+◌, ◌-◌, ◌*◌, ◌<◌, ◌≤◌}
use mathlib.Core.Path.{◌≡◌, ◌∙◌}
use mathlib.Core.List.{List}
use native.Mathlib.Omega.{arith}
use native.Mathlib.Nat.{suc-mul, mul-le-mul_left, mul-le-mul_right, le_trans}
use lib.ListN.{length, get_or, set}
use lib.Seq.{get_or-set_same, get_or-set_other}
use lib.Dec.{ltb, eqb}
use borrow.Author.Count.{below_more}
use borrow.Author.Tests.{eqb-true, eqb-false, ltb-true, ltb-false}
use Rattle.laws.proofs.Logic.{decided}
use Rattle.words.specs.Word.{word_at}
use Rattle.tables.specs.Cell.{cell, Table}
use Rattle.tables.specs.Square.{wide_of, held, Copied, Squared, InRange}
use Rattle.tables.proofs.TableLaws.{row_before, cell-low}

-- rows are as wide as a table has rows, or wider
pub wide-holds : (n : ℕ) → n ≤ wide_of n
wide-holds n = omega arith

wide-most : (n m : ℕ) → n ≤ 8 * m → wide_of n ≤ 8 * m
wide-most n m h = omega arith

-- and have room in a square of eights that has the table's rows
pub room_holds : (n m : ℕ) → n ≤ 8 * m → n * wide_of n ≤ 8 * m * (8 * m)
room_holds n m h = le_trans (mul-le-mul_right (wide_of n) h) (mul-le-mul_left (8 * m) (wide-most n m h))

-- l has the rows before row i, and r has the words of row i too: 0 on its diagonal is what is left to do
module _ {n w i : ℕ} {t : ℕ → ℕ → ℕ} {l r : List ℕ} (g : Squared n w t i l) (p : Copied l (i * w) n (t i) r) (low : (k : ℕ) → k < n → t i k ≤ 1000000) (h : i < n)
    (m : n ≤ w) (room : i * w + w ≤ length l) where
  -- an entry that is not on the diagonal
  other : (q : ℕ) → (q ≡ i * w + i → ⊥) → get_or (set r (i * w + i) 0) q 0 ≡ get_or r q 0
  other q z = get_or-set_other r (i * w + i) q 0 0 z

  own : get_or (set r (i * w + i) 0) (i * w + i) 0 ≡ 0
  own = get_or-set_same r (i * w + i) 0 0 (omega (arith, p.long))

  row_at : (k : ℕ) → k < w → get_or (set r (i * w + i) 0) (i * w + k) 0 ≡ held n t i k
  row_at k b =
      decided (eqb k i)
      (λ e. rw (e, eqb-true k i e) own)
      (λ e. let z = eqb-false k i e in rw e (other (i * w + k) (λ y. z (omega arith)) ∙ decided (ltb k n)
      (λ f. rw f (p.at k (ltb-true k n f)))
      (λ f. let y = ltb-false k n f in rw f (p.behind (i * w + k) (omega arith) ∙ g.rest (i * w + k) (omega arith)))))

  all-low : (q : ℕ) → get_or r q 0 ≤ 1000000
  all-low q =
      decided (ltb q (i * w))
      (λ e. omega (arith, p.before q (ltb-true q (i * w) e), g.low.low q))
      (λ e. let z = ltb-false q (i * w) e in decided (ltb q (i * w + n))
      (λ f. let y = ltb-true q (i * w + n) f in let x : i * w + (q - i * w) ≡ q = omega arith in rw x at (entry (q - i * w) (omega arith)))
      (λ f. omega (arith, p.behind q (ltb-false q (i * w + n) f), g.low.low q)))
    where
      entry : (k : ℕ) → k < n → get_or r (i * w + k) 0 ≤ 1000000
      entry k b = omega (arith, p.at k b, low k b)

  rows_more : Squared n w t (i + 1) (set r (i * w + i) 0)
  rows_more = record {
    low = record {
      low = λ q. decided (eqb q (i * w + i))
          (λ e. let z = eqb-true q (i * w + i) e in rw z (omega (arith, own)))
          (λ e. omega (arith, other q (eqb-false q (i * w + i) e), all-low q));
    };
    at = below_more (λ q. (k : ℕ) → k < w → get_or (set r (i * w + i) 0) (q * w + k) 0 ≡ held n t q k) i
        (λ q b k c. let e = row_before w b in other (q * w + k) (λ z. absurd (omega arith)) ∙ p.before (q * w + k) (omega arith) ∙ g.at q b k c)
        row_at;
    rest = λ q b. let e = suc-mul i w in other q (λ z. absurd (omega arith)) ∙ p.behind q (omega arith) ∙ g.rest q (omega arith);
  }

-- the loop's next turn: row i of the sheet's table was read
pub rows-read : {s : List ℕ} {from n w i at to : ℕ} {l r : List ℕ} → Table s from n → Squared n w (cell s from n) i l → i < n → n ≤ w → n * w ≤ length l
    → at ≡ from + i * n → to ≡ i * w → Copied l to n (λ k. word_at s (at + k)) r → Squared n w (cell s from n) (i + 1) (set r (to + i) 0)
unfolding cell
rows-read {n = n} {w = w} {i = i} t g h m room e f p = rw f (rows_more g (rw (e, f) at p) (λ k b. cell-low t i k h b) h m (omega (arith, row_before w h)))

-- every row of a square is as row_ok asks
pub row-holds : {n w i : ℕ} {t : ℕ → ℕ → ℕ} {l : List ℕ} → Squared n w t n l → n ≤ w → n * w ≤ length l → i < n
    → (i < w) × (i * w + w ≤ length l) × InRange l
row-holds {n} {w} g m room h = let e = row_before w h in (omega arith, omega arith, g.low)
