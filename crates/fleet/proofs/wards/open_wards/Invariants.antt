use Rattle.fleet.proofs.WardLaws.{Opens}
use Rattle.fleet.proofs.wards.open_wards.Given as goal

abbrev pub invariant-loop-y : goal.invariant-loop-y
invariant-loop-y l = Opens l.sets l.y l.w
