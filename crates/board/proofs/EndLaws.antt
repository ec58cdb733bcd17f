-- Sets that end with the nodes: passes over them stop there.
use mathlib.Core.Path.{◌≡◌, ap}
use mathlib.Core.List.{List}
use Prim.Native.Nat.{ℕ, ◌≤◌}
use native.Mathlib.Omega.{arith}
use lib.Count.{ones}
use lib.ListN.{get_or, get_or-eq_default}
use lib.Dec.{ltb}
use borrow.Author.Tests.{eqb-true, ltb-true, ltb-false}
use Rattle.laws.proofs.Logic.{decided}
use Rattle.laws.proofs.Sum.{sum-end}
use Rattle.board.specs.Board.{Board, set_of, places_of}
use Rattle.board.specs.Form.{set_ok}
use Rattle.board.proofs.TestLaws.{outer}
use Rattle.board.specs.Held.{Ends, Sound}

-- so it is in a state in form
pub sets_end : (n : ℕ) (b : Board) → Sound n b → Ends n b.sets
unfolding set_of set_ok
sets_end n b s y h =
    decided (ltb y 64)
    (λ l. eqb-true (get_or b.sets y 0) 0 (rw (outer n y (omega arith)) at (s.form.sets y (ltb-true y 64 l))))
    (λ l. get_or-eq_default b.sets 0 (omega (arith, ltb-false y 64 l, s.wide.sets)))

-- no place is past them
pub places-end : (n : ℕ) (ws : List ℕ) → n ≤ 64 → Ends n ws → places_of ws n ≡ places_of ws 64
unfolding places_of ones
places-end n ws l h = sum-end n 64 (λ y. ones (get_or ws y 0)) l (λ i g. ap ones (h i g))
