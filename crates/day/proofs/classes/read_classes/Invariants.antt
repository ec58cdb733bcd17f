use Rattle.laws.specs.Basic.{Filled}
use Rattle.day.specs.Tell.{class_of}
use Rattle.day.proofs.classes.read_classes.Given as goal

abbrev pub invariant-loop-x : goal.invariant-loop-x
invariant-loop-x l = Filled 64 (class_of l.s) 0 l.x l.classes
