use mathlib.Core.Path.{ap}
use native.Mathlib.Omega.{arith}
use Rattle.fleet.proofs.FleetLaws.{fleet_made}
use Rattle.fleet.proofs.RowLaws.{turned-end}
use Rattle.fleet.proofs.rows.fleet_of.Goals as goal

pub returns : goal.returns
returns c = ap fleet_made (turned-end c.loop-j.invariant (omega arith))
