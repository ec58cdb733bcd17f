use mathlib.Core.Path.{◌≡◌}
use mathlib.Core.List.{[]}
use Prim.Native.Nat.{◌+◌, ◌*◌, ◌≤◌}
use lib.ListN.{drop}
use Rattle.rules.specs.Load.{load}
use Rattle.day.specs.Tell.{day_of}
use Rattle.along.proofs.loads.at_start.Given as goal

abbrev pub invariant-loop-x : goal.invariant-loop-x
invariant-loop-x l =
    (l.sum ≤ 4398046511104 * l.x-index) × (l.sum + load (day_of l.s) [] (drop l.x-index l.x-items) ≡ load (day_of l.s) [] l.x-items)
