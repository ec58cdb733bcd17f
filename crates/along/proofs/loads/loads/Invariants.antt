use lib.ListN.{take}
use Rattle.day.specs.Tell.{day_of}
use Rattle.along.proofs.Walking.{Riding}
use Rattle.along.proofs.loads.loads.Given as goal

abbrev pub invariant-loop-i : goal.invariant-loop-i
invariant-loop-i l = Riding (day_of l.s) (take l.stops l.route) l.i l.aboard l.highest l.h
