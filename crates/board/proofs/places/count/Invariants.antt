use mathlib.Core.Path.{◌≡◌}
use Prim.Native.Nat.{◌≤◌, ◌*◌}
use Rattle.board.specs.Board.{places_of}
use Rattle.board.proofs.places.count.Given as goal

abbrev pub invariant-loop-w : goal.invariant-loop-w
invariant-loop-w l = (l.k ≤ 64 * l.w-index) × (l.k ≡ places_of l.sets l.w-index)
