use lib.ListN.{take}
use Rattle.day.specs.Tell.{day_of}
use Rattle.verdict.proofs.Mixing.{Walked}
use Rattle.verdict.proofs.clean_first.Given as goal

abbrev pub invariant-loop-x : goal.invariant-loop-x
invariant-loop-x l = Walked (day_of l.s) (take l.stops l.route) l.x-index l.met
