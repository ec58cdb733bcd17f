use mathlib.Core.Path.{◌≡◌}
use Rattle.laws.specs.Basic.{peak}
use Rattle.day.specs.Tell.{van_of}
use Rattle.day.proofs.look.largest.Given as goal

abbrev pub invariant-loop-i : goal.invariant-loop-i
invariant-loop-i l = l.most ≡ peak (λ k. (van_of l.s k).capacity) l.i
