use lib.Dec.{eqb}
use lib.ListN.{get_or}
use mathlib.Core.Path.{◌≡◌}
use Rattle.laws.specs.Basic.{all_below}
use Rattle.settle.proofs.settling.same.Given as goal

abbrev pub invariant-loop-i : goal.invariant-loop-i
invariant-loop-i l = all_below l.i (λ k. eqb (get_or l.a k 0) (get_or l.b k 0)) ≡ l.is
