use mathlib.Core.List.{[]}
use lib.ListN.{get_or}
use Rattle.rules.specs.Numbers.{most_vans}
use Rattle.laws.proofs.Turned.{Turned}
use Rattle.telling.proofs.VanLaws.{told_or, KeptBelow}
use Rattle.telling.proofs.tell_vans.Given as goal

abbrev pub invariant-loop-j : goal.invariant-loop-j
invariant-loop-j l = record {
  told : Turned most_vans (told_or l.sheet l.routes l.sets l.figures l.every l.initial.told) (λ k. get_or l.initial.told k []) [] l.j l.told;
  ways : KeptBelow l.sheet l.jobs l.routes l.figures l.initial.ways l.j l.ways;
}
