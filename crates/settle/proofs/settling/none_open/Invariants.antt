use lib.Dec.{eqb}
use lib.ListN.{get_or}
use mathlib.Core.Path.{◌≡◌}
use Rattle.laws.specs.Basic.{all_below}
use Rattle.settle.proofs.settling.none_open.Given as goal

abbrev pub invariant-loop-i : goal.invariant-loop-i
invariant-loop-i l = all_below l.i (λ k. eqb (get_or l.sets k 0) 0) ≡ eqb l.all 0
