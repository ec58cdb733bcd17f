use Rattle.fleet.proofs.ServedLaws.{Missing}
use Rattle.fleet.proofs.wards.missed.Given as goal

abbrev pub invariant-loop-x : goal.invariant-loop-x
invariant-loop-x l = Missing l.sets l.off l.x-iterator.left l.kept
