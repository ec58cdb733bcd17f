use mathlib.Core.Path.{◌≡◌}
use lib.ListN.{get_or}
use Rattle.walks.specs.Walks.{Before}
use Rattle.walks.proofs.befores.Given as goal

abbrev pub invariant-loop-i : goal.invariant-loop-i
invariant-loop-i l = (l.w ≡ get_or l.before l.i 0) × Before l.route l.i l.before
