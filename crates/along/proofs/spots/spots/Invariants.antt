use Rattle.along.specs.Spots.{Spots}
use Rattle.along.proofs.spots.spots.Given as goal

abbrev pub invariant-loop-i : goal.invariant-loop-i
invariant-loop-i l = Spots l.route l.i l.at
