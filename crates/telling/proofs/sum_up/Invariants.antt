use mathlib.Core.Path.{◌≡◌}
use mathlib.Core.Bool.{not}
use mathlib.Core.List.{[]}
use Prim.Native.Nat.{◌≤◌, ◌*◌}
use lib.ListN.{get_or}
use lib.Dec.{eqb}
use Rattle.laws.specs.Basic.{sum_below, all_below}
use Rattle.telling.proofs.sum_up.Given as goal

abbrev pub invariant-loop-j : goal.invariant-loop-j
invariant-loop-j l = record {
  few_places : l.places ≤ 4096 * l.j;
  few_records : l.records ≤ 4096 * l.j;
  places : l.places ≡ sum_below l.j (λ i. get_or (get_or l.told i []) 0 0);
  records : l.records ≡ sum_below l.j (λ i. get_or (get_or l.told i []) 1 0);
  alive : all_below l.j (λ i. not (eqb (get_or (get_or l.told i []) 2 0) 0)) ≡ l.alive;
}
