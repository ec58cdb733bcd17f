use Rattle.fleet.specs.Rows.{fleet_with}
use Rattle.fleet.proofs.JoinLaws.{Joined}
use Rattle.fleet.proofs.form.vans_ok.Given as goal

abbrev pub invariant-loop-j : goal.invariant-loop-j
invariant-loop-j l = Joined l.n l.v l.j (fleet_with l.routes l.sets l.levels l.figures) l.wards
