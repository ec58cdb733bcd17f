use native.Mathlib.Omega.{arith}
use mathlib.Core.Path.{◌≡◌, ap, sym, ◌∙◌}
use mathlib.Core.Bool.{not, ◌&&◌}
use mathlib.Core.List.{[]}
use lib.ListN.{get_or}
use Rattle.bits.specs.Places.{has}
use Rattle.board.specs.Board.{board_of}
use Rattle.board.specs.declared.State.{State}
use Rattle.board.specs.declared.Figures.{Figures}
use Rattle.fleet.specs.Form.{has_ward}
use Rattle.fleet.specs.Fleet.{fleet_of}
use Rattle.fleet.specs.Rows.{figures_in, row_state, fleet_with}
use Rattle.fleet.proofs.FleetLaws.{state-of}
use Rattle.fleet.proofs.ServedLaws.{unserved-none, unserved-more, served-all, served-end}
use Rattle.fleet.proofs.wards.served.Goals as goal

pub loop-j-init : goal.loop-j-init
loop-j-init c =
    let a = c.args in (
      omega arith,
      λ levels. unserved-none (fleet_with a.routes.now a.sets.now levels a.figures.now) (ap (λ (f : Figures). f.must) c.figures_in-one.ensures
          ∙ sym (ap (λ (s : State). s.must) (state-of (row_state a.routes.now a.sets.now levels a.figures.now) 0 (omega arith)))),
    )

pub returns-then-left-eq0 : goal.returns-then-left-eq0
returns-then-left-eq0 c = λ levels.
    let a = c.args in
    let f = fleet_with a.routes.now a.sets.now levels a.figures.now in
    served-all f c.loop-j.j a.v (c.loop-j.invariant.1 levels) (omega arith) c.if-left-eq0.true

pub loop-j-preserved : goal.loop-j-preserved
loop-j-preserved c =
    let a = c.args in
    let j = c.loop-j.j in
    let left = c.loop-j.left in
    let f = figures_in (get_or a.figures.now j []) in (
      omega arith,
      λ levels.
          let row = row_state a.routes.now a.sets.now levels a.figures.now in
          unserved-more (fleet_of row) j left c.missed-left.result (c.loop-j.invariant.1 levels)
          (λ y l. rw c.figures_in-f.ensures at (c.missed-left.ensures f.marks f.must y l)
          ∙ ap (λ (x : State). has left y && not (has_ward (board_of x) y)) (sym (state-of row j (omega arith)))),
    )

pub returns : goal.returns
returns c =
    let a = c.args in
    let e : c.loop-j.j ≡ a.v = omega arith in
    λ levels. served-end (fleet_with a.routes.now a.sets.now levels a.figures.now) a.v (rw e at (c.loop-j.invariant.1 levels)) (omega arith)
