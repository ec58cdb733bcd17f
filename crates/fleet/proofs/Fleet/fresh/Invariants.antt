use Rattle.laws.proofs.Turned.{Turned}
use Rattle.day.specs.Tell.{admitted}
use Rattle.board.specs.Fresh.{no_state, fresh_state}
use Rattle.fleet.proofs.Fleet.fresh.Given as goal

abbrev pub invariant-loop-j : goal.invariant-loop-j
invariant-loop-j l = Turned 8 (λ k. fresh_state l.at.nodes (admitted l.sheet k)) (λ k. no_state) no_state l.j l.vans
