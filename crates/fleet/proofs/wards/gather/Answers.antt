use native.Mathlib.Omega.{arith}
use mathlib.Core.Path.{sym, subst}
use mathlib.Core.List.{[]}
use lib.ListN.{get_or}
use Rattle.board.specs.Board.{board_of}
use Rattle.board.specs.declared.State.{State}
use Rattle.fleet.specs.Fleet.{fleet_of}
use Rattle.fleet.specs.Rows.{figures_in, row_state, fleet_with}
use Rattle.fleet.specs.Wards.{AddsVan}
use Rattle.fleet.proofs.FleetLaws.{state-of}
use Rattle.fleet.proofs.WardLaws.{adds-any, wards-none, wards-more}
use Rattle.fleet.proofs.wards.gather.Goals as goal

pub loop-j-init : goal.loop-j-init
loop-j-init c =
    let a = c.args in
    λ levels. rw c.none-all.ensures (wards-none a.n (fleet_with a.routes.now a.sets.now levels a.figures.now))

pub loop-j-preserved : goal.loop-j-preserved
loop-j-preserved c = λ levels.
    let a = c.args in
    let j = c.loop-j.j in
    let w = c.loop-j.all in
    let r = c.with_van-all.result in
    let route = get_or a.routes.now j [] in
    let f = figures_in (get_or a.figures.now j []) in
    let row = row_state a.routes.now a.sets.now levels a.figures.now in
    let adds = adds-any a.n w route f.stops (get_or a.sets.now j []) f.marks f.must r (rw c.figures_in-f.ensures at c.with_van-all.ensures) in
    wards-more a.n (c.requires.by_index j c.loop-j-test.true).0 (fleet_of row) j w r (c.loop-j.invariant levels)
    (subst (λ (x : State). AddsVan a.n w (board_of x) r) (sym (state-of row j (omega arith))) adds)
