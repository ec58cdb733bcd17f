use Rattle.along.proofs.NodeLaws.{Named}
use Rattle.along.proofs.nodes.partners_of.Given as goal

abbrev pub invariant-loop-x : goal.invariant-loop-x
invariant-loop-x l = Named l.t l.members l.x-iterator.left l.word
