use mathlib.Core.Path.{◌≡◌}
use mathlib.Core.List.{map}
use Rattle.laws.proofs.Sweep.{swept}
use Rattle.records.specs.Undoing.{cut}
use Rattle.records.proofs.undo.cut_sets.Given as goal

abbrev pub invariant-loop-y : goal.invariant-loop-y
invariant-loop-y l = l.sets ≡ swept l.initial.sets (map (cut l.legs) l.initial.sets) l.y
