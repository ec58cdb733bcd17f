use mathlib.Core.Path.{◌≡◌}
use Prim.Native.Nat.{◌-◌, ◌≤◌}
use lib.IntN.{pos}
use lib.Signed.{le_z}
use Rattle.laws.specs.Basic.{all_below}
use Rattle.tables.specs.Square.{entry_asked}
use Rattle.tables.proofs.row_ok.Given as goal

abbrev pub invariant-loop-k : goal.invariant-loop-k
invariant-loop-k l = (l.k ≤ l.wide) × (all_below l.i (λ j. all_below l.k (entry_asked l.square l.wide l.i j)) ≡ le_z (pos 0) l.left)

abbrev pub decreases-loop-k : goal.decreases-loop-k
decreases-loop-k l = l.wide - l.k
