use Rattle.day.specs.Tell.{day_of}
use Rattle.verdict.proofs.Carry.{Laden}
use Rattle.verdict.proofs.carried.Given as goal

abbrev pub invariant-loop-i : goal.invariant-loop-i
invariant-loop-i l = Laden l.van (day_of l.s) l.t l.route l.stops l.i l.aboard l.seen
