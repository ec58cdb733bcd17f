use mathlib.Core.Path.{◌≡◌}
use Prim.Native.Nat.{◌+◌}
use lib.ListN.{length}
use Rattle.records.specs.Trail.{shrunk, note_below}
use Rattle.records.proofs.write.note.Given as goal

abbrev pub invariant-loop-y : goal.invariant-loop-y
invariant-loop-y l =
    (l.i ≡ l.records + shrunk l.old l.new l.y) × (length l.trail ≡ length l.initial.trail)
    × (note_below l.old l.new l.y (l.records, l.initial.trail) ≡ (l.i, l.trail))
