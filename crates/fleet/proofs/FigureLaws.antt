-- A van's other numbers in a row of five.
use mathlib.Core.Path.{◌≡◌, refl, ap, ◌∙◌}
use mathlib.Core.List.{List, [], ◌∷◌}
use Prim.Native.Nat.{ℕ}
use native.Mathlib.Omega.{arith}
use lib.ListN.{length, set, length-set}
use lib.Seq.{get_or-set_same, get_or-set_other}
use lib.Dec.{eqb}
use borrow.Author.Tests.{eqb-true, eqb-false}
use Rattle.laws.proofs.Logic.{decided}
use Rattle.board.specs.declared.Figures.{Figures}
use Rattle.fleet.specs.Rows.{row_of, Figured}

-- a row of five, each entry written
pub row_written : (l : List ℕ) (f : Figures) → length l ≡ 5 → set (set (set (set (set l 0 f.stops) 1 f.marks) 2 f.must) 3 f.depth) 4 f.records ≡ row_of f
row_written [] f h = absurd (omega arith)
row_written (a ∷ []) f h = absurd (omega arith)
row_written (a ∷ b ∷ []) f h = absurd (omega arith)
row_written (a ∷ b ∷ c ∷ []) f h = absurd (omega arith)
row_written (a ∷ b ∷ c ∷ d ∷ []) f h = absurd (omega arith)
row_written (a ∷ b ∷ c ∷ d ∷ e ∷ []) f h = refl
row_written (a ∷ b ∷ c ∷ d ∷ e ∷ g ∷ l) f h = absurd (omega arith)

-- another row in its place
pub figured-set : (rows : List (List ℕ)) (j : ℕ) (f : Figures) → Figured rows → Figured (set rows j (row_of f))
figured-set rows j f p = record {
  eight = length-set rows j (row_of f) ∙ p.eight;
  wide = λ i h.
      decided (eqb i j)
      (λ e. rw (eqb-true i j e) (ap length (get_or-set_same rows j (row_of f) [] (omega (arith, p.eight, h, eqb-true i j e)))))
      (λ e. ap length (get_or-set_other rows j i (row_of f) [] (eqb-false i j e)) ∙ p.wide i h);
}
