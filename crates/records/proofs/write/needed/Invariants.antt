use mathlib.Core.Path.{◌≡◌}
use Prim.Native.Nat.{◌≤◌}
use Rattle.records.specs.Trail.{shrunk}
use Rattle.records.proofs.write.needed.Given as goal

abbrev pub invariant-loop-y : goal.invariant-loop-y
invariant-loop-y l = (l.k ≤ l.y) × (l.k ≡ shrunk l.old l.new l.y)
