use Rattle.fleet.specs.Rows.{fleet_with}
use Rattle.fleet.proofs.FormLaws.{Resting}
use Rattle.fleet.proofs.form.others_idle.Given as goal

abbrev pub invariant-loop-j : goal.invariant-loop-j
invariant-loop-j l = Resting (fleet_with l.routes l.sets l.levels l.figures) l.v l.j l.idle
