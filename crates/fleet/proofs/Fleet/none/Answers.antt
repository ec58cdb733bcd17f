use mathlib.Core.Path.{ap, ◌∙◌}
use lib.ListN.{replicate}
use Rattle.board.specs.Fresh.{no_state}
use Rattle.board.specs.declared.State.{State}
use Rattle.fleet.specs.Fleet.{no_fleet}
use Rattle.laws.proofs.Turned.{tab-replicate}
use Rattle.fleet.proofs.FleetLaws.{fleet_made}
use Rattle.fleet.proofs.Fleet.none.Goals as goal

pub returns : goal.returns
unfolding no_fleet
returns c = ap (λ (s : State). fleet_made (replicate 8 s)) c.none.ensures ∙ ap fleet_made (tab-replicate 8 no_state)
