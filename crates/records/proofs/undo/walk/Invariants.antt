use mathlib.Core.Path.{◌≡◌}
use mathlib.Core.List.{List}
use Prim.Native.Nat.{ℕ, ◌<◌}
use lib.ListN.{get_or}
use Rattle.laws.proofs.Sweep.{swept}
use Rattle.board.specs.Board.{Board}
use Rattle.board.specs.Held.{Sound}
use Rattle.records.specs.Undoing.{Beside}
use Rattle.records.proofs.undo.walk.Given as goal

abbrev pub invariant-loop-i : goal.invariant-loop-i
invariant-loop-i l =
    (n : ℕ) (b : Board) (last : List ℕ) → Sound n b → b.stops ≡ l.stops → Beside b.stops b.route l.next last
    → (l.route ≡ swept l.fn.route b.route l.i) × (l.i < l.stops → l.p ≡ get_or b.route l.i 0)

abbrev pub invariant-loop-i-2 : goal.invariant-loop-i-2
invariant-loop-i-2 l =
    (n : ℕ) (b : Board) (last : List ℕ) → Sound n b → b.stops ≡ l.stops → Beside b.stops b.route l.next last → l.route ≡ swept l.fn.route b.route l.i
