use native.Mathlib.Omega.{arith}
use mathlib.Core.Path.{ap}
use Rattle.board.specs.declared.State.{State}
use Rattle.fleet.specs.Rows.{row_state}
use Rattle.fleet.proofs.FleetLaws.{state-of}
use Rattle.fleet.proofs.JoinLaws.{joined-none, joined-more}
use Rattle.fleet.proofs.form.vans_ok.Goals as goal

pub loop-j-init : goal.loop-j-init
loop-j-init c = joined-none _ _ _ c.none-wards.ensures

pub loop-j-preserved : goal.loop-j-preserved
loop-j-preserved c =
    let a = c.args in
    let j = c.loop-j.j in
    let row = row_state a.routes.now a.sets.now a.levels.now a.figures.now in
    let depth = ap (λ (x : State). x.depth) (state-of row 0 (omega arith)) in
    joined-more a.n a.v c.requires.3 _ j c.loop-j-test.true c.loop-j.invariant
    (rw (c.figures_in-f.ensures, c.figures_in-one.ensures, ← state-of row j (omega arith), ← depth) at c.join_van-wards.ensures)
