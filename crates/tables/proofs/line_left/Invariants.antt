use mathlib.Core.Path.{◌≡◌}
use lib.IntN.{pos}
use lib.Signed.{le_z}
use Rattle.laws.specs.Basic.{all_below}
use Rattle.tables.specs.Square.{line_ok}
use Rattle.tables.proofs.line_left.Given as goal

abbrev pub invariant-loop-k : goal.invariant-loop-k
invariant-loop-k l = all_below l.k (line_ok l.square l.there l.back l.a l.b) ≡ le_z (pos 0) l.left
