use mathlib.Core.Path.{◌≡◌}
use Prim.Native.Nat.{ℕ}
use Rattle.laws.specs.Basic.{mem}
use Rattle.rules.specs.Along.{behind}
use Rattle.bits.specs.Places.{has}
use Rattle.along.proofs.spots.word.Given as goal

abbrev pub invariant-loop-x : goal.invariant-loop-x
invariant-loop-x l = (x : ℕ) → has l.w x ≡ mem x (behind l.x-items l.x-index)
