use mathlib.Core.Path.{◌≡◌}
use mathlib.Core.Bool.{true}
use Prim.Native.Nat.{◌-◌}
use Rattle.board.specs.Board.{Board}
use Rattle.records.specs.Undo.{undo_many}
use Rattle.records.specs.Undoing.{Undoing}
use Rattle.records.proofs.undo.undo_from.Given as goal

abbrev pub invariant-loop-i : goal.invariant-loop-i
invariant-loop-i l =
    (l.u.fits ≡ true)
    × ((b : Board) → Undoing l.n b l.fn.begun l.fn.next l.fn.last l.fn.sets
    → (c : Board) × Undoing l.n c l.u l.next l.last l.sets
    × (undo_many (l.records - l.base) l.n b l.records l.trail ≡ undo_many (l.i - l.base) l.n c l.i l.trail))
