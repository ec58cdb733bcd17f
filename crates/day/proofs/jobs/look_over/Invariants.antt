use mathlib.Core.Path.{◌≡◌}
use Rattle.laws.specs.Basic.{peak}
use Rattle.rules.specs.Load.{load_of}
use Rattle.day.specs.Tell.{job_in}
use Rattle.day.proofs.SeenLaws.{Passed}
use Rattle.day.proofs.jobs.look_over.Given as goal

abbrev pub invariant-loop-i : goal.invariant-loop-i
invariant-loop-i l = Passed (job_in l.s) l.i l.seen × (l.heaviest ≡ peak (λ k. load_of (job_in l.s k)) l.i)
