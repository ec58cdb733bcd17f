use native.Mathlib.Omega.{arith}
use mathlib.Core.Path.{ap}
use Rattle.board.specs.declared.State.{State}
use Rattle.fleet.specs.Rows.{figures_of, row_of}
use Rattle.fleet.proofs.FigureLaws.{figured-set}
use Rattle.fleet.proofs.FleetLaws.{state-any}
use Rattle.laws.proofs.Turned.{turned_more}
use Rattle.fleet.proofs.RowLaws.{turned-end}
use Rattle.fleet.proofs.Told.{is-held-all}
use Rattle.fleet.proofs.rows.take_figures.Goals as goal

pub loop-j-preserved : goal.loop-j-preserved
loop-j-preserved c =
    let held = is-held-all c.args.fleet _ c.well_formed.0 in
    let own = ap (λ (s : State). row_of (figures_of s)) (state-any c.args.fleet c.loop-j.j _ held.eight (omega arith)) in
    rw (c.put_figures.ensures, c.figures_of.ensures)
    (figured-set _ c.loop-j.j _ c.loop-j.invariant.0, turned_more _ c.loop-j.invariant.1 (omega arith) own)

pub returns : goal.returns
returns c = turned-end c.loop-j.invariant.1 (omega arith)
