use Rattle.laws.proofs.Turned.{Turned}
use Rattle.board.specs.Fresh.{no_state}
use Rattle.fleet.specs.Rows.{row_state}
use Rattle.fleet.proofs.rows.fleet_of.Given as goal

abbrev pub invariant-loop-j : goal.invariant-loop-j
invariant-loop-j l = Turned 8 (row_state l.routes l.sets l.levels l.figures) (λ k. no_state) no_state l.j l.vans
