use mathlib.Core.Path.{◌≡◌}
use mathlib.Core.List.{map}
use Rattle.laws.proofs.Sweep.{swept}
use Rattle.board.specs.Change.{heir}
use Rattle.board.proofs.places.inherit.Given as goal

abbrev pub invariant-loop-i : goal.invariant-loop-i
invariant-loop-i l = l.sets ≡ swept l.initial.sets (map (heir l.p l.x) l.initial.sets) l.i
