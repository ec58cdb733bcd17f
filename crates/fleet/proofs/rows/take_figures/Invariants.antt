use Rattle.board.specs.declared.State.{State}
use Rattle.fleet.specs.Rows.{figures_of, row_of, Figured}
use Rattle.fleet.proofs.RowLaws.{Taking}
use Rattle.fleet.proofs.rows.take_figures.Given as goal

abbrev pub invariant-loop-j : goal.invariant-loop-j
invariant-loop-j l = Figured l.rows × Taking (λ (s : State). row_of (figures_of s)) l.vans l.initial.rows l.j l.rows
