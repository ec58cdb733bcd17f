use mathlib.Core.Path.{◌≡◌}
use Prim.Native.Nat.{◌*◌, ◌≤◌}
use lib.IntN.{pos}
use lib.Signed.{le_z}
use Rattle.laws.specs.Basic.{all_below}
use Rattle.tables.specs.Square.{strip_ok}
use Rattle.tables.proofs.strip_left.Given as goal

abbrev pub invariant-loop-j : goal.invariant-loop-j
invariant-loop-j l = (l.b ≡ l.j * l.wide) × (l.b ≤ l.i * l.wide) × (all_below l.j (strip_ok l.square l.wide l.i l.k l.width) ≡ le_z (pos 0) l.left)
