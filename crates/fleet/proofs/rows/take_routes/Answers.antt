use native.Mathlib.Omega.{arith}
use mathlib.Core.Path.{ap}
use Rattle.board.specs.declared.State.{State}
use Rattle.fleet.proofs.FleetLaws.{state-any}
use Rattle.laws.proofs.Turned.{turned_more}
use Rattle.fleet.proofs.RowLaws.{turned-end}
use Rattle.fleet.proofs.Told.{is-held-all}
use Rattle.fleet.proofs.rows.take_routes.Goals as goal

pub loop-j-preserved : goal.loop-j-preserved
loop-j-preserved c =
    let own = ap (λ (s : State). s.route) (state-any c.args.fleet c.loop-j.j _ (is-held-all c.args.fleet _ c.well_formed.0).eight (omega arith)) in
    turned_more _ c.loop-j.invariant (omega arith) own

pub returns : goal.returns
returns c = turned-end c.loop-j.invariant (omega arith)
