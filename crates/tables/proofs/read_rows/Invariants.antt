use mathlib.Core.Path.{◌≡◌}
use Prim.Native.Nat.{◌+◌, ◌*◌}
use Rattle.tables.specs.Cell.{cell}
use Rattle.tables.specs.Square.{Squared}
use Rattle.tables.proofs.read_rows.Given as goal

abbrev pub invariant-loop-i : goal.invariant-loop-i
invariant-loop-i l = (l.at ≡ l.from + l.i * l.n) × (l.to ≡ l.i * l.wide) × Squared l.n l.wide (cell l.s l.from l.n) l.i l.square
