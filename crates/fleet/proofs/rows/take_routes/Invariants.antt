use Rattle.board.specs.declared.State.{State}
use Rattle.fleet.proofs.RowLaws.{Taking}
use Rattle.fleet.proofs.rows.take_routes.Given as goal

abbrev pub invariant-loop-j : goal.invariant-loop-j
invariant-loop-j l = Taking (λ (s : State). s.route) l.vans l.initial.rows l.j l.rows
