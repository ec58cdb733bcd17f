use Rattle.records.specs.Undoing.{Beside}
use Rattle.records.proofs.undo.neighbours.Given as goal

abbrev pub invariant-loop-i : goal.invariant-loop-i
invariant-loop-i l = Beside l.i l.route l.next l.last
