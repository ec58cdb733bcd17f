use Rattle.verdict.proofs.Marks.{Asked}
use Rattle.verdict.proofs.all_open.Given as goal

abbrev pub invariant-loop-x : goal.invariant-loop-x
invariant-loop-x l = Asked l.sets l.members l.x-iterator.left
