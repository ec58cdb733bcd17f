use native.Mathlib.Omega.{arith}
use mathlib.Core.Path.{ap, sym, ◌∙◌}
use Rattle.fleet.specs.Form.{idle}
use Rattle.fleet.specs.Rows.{row_state}
use Rattle.fleet.proofs.FleetLaws.{state-of}
use Rattle.fleet.proofs.FormLaws.{resting-none, resting-more}
use Rattle.fleet.proofs.form.others_idle.Goals as goal

pub loop-j-init : goal.loop-j-init
loop-j-init c = resting-none _ _

pub loop-j-preserved : goal.loop-j-preserved
loop-j-preserved c =
    let a = c.args in
    let row = row_state a.routes.now a.sets.now a.levels.now a.figures.now in
    let own = rw c.figures_in-f.ensures at c.is_idle-idle.ensures ∙ ap idle (sym (state-of row c.loop-j.j (omega arith))) in
    resting-more _ _ c.loop-j.j c.loop-j.auto.j own c.loop-j.invariant
