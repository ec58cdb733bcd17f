use native.Mathlib.Omega.{arith}
use mathlib.Core.Path.{◌≡◌, sym}
use mathlib.Core.Bool.{and-true}
use Rattle.laws.proofs.Below.{below_none}
use Rattle.board.specs.Board.{state_of, state_with}
use Rattle.fleet.specs.Form.{idle}
use Rattle.fleet.proofs.TestLaws.{idle-starts, idle-goes, idle-done}
use Rattle.fleet.proofs.form.is_idle.Goals as goal

pub loop-i-init : goal.loop-i-init
loop-i-init c = rw below_none (sym (and-true _))

pub loop-i-preserved : goal.loop-i-preserved
loop-i-preserved c =
    let a = c.args in
    idle-goes (state_of a.route.now 0 a.sets.now 0 0 a.levels.now 0 0) c.loop-i.i c.loop-i.all _ c.loop-i.invariant

pub returns : goal.returns
unfolding idle
returns c =
    let a = c.args in
    let s = state_with a.route.now a.sets.now a.levels.now a.f in
    let e : c.loop-i.i ≡ 64 = omega arith in
    idle-done s (rw (e, idle-starts s) at c.loop-i.invariant)
