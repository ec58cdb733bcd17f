use Prim.Native.Nat.{◌-◌}
use Rattle.day.specs.Tell.{job_in}
use Rattle.settle.specs.Round.{Kepts, load_leaves, jobs_leave}
use Rattle.settle.proofs.strike.strike_loads.Given as goal

abbrev pub invariant-loop-j : goal.invariant-loop-j
invariant-loop-j l = Kepts l.route (l.pass.stops - 1) (jobs_leave (load_leaves l.h l.pass) (job_in l.s) l.j) l.initial.new l.new
