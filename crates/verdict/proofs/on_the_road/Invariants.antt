use Rattle.day.specs.Tell.{day_of}
use Rattle.verdict.proofs.Road.{Rode}
use Rattle.verdict.proofs.on_the_road.Given as goal

abbrev pub invariant-loop-x : goal.invariant-loop-x
invariant-loop-x l = Rode (day_of l.s) l.route l.stops l.x-index l.p l.t l.total
