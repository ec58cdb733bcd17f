use Prim.Native.Nat.{◌-◌}
use mathlib.Core.Path.{◌≡◌}
use mathlib.Core.Bool.{not}
use Rattle.settle.specs.Round.{Kepts, pair_leaves, jobs_leave, same_sets}
use Rattle.settle.proofs.Begun.{job_from}
use Rattle.settle.proofs.strike.strike_pairs.Given as goal

abbrev pub invariant-loop-x : goal.invariant-loop-x
invariant-loop-x l =
    Kepts l.route (l.pass.stops - 1) (jobs_leave (pair_leaves l.initial.new l.route l.h l.pass) (job_from l.t) l.x) l.initial.new l.new
    × (l.struck ≡ not (same_sets l.initial.new l.new))
