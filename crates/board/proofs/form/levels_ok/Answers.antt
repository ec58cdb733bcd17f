use native.Mathlib.Omega.{arith}
use mathlib.Core.Path.{refl, sym}
use borrow.Author.Tests.{lt-leb, le-leb}
use Rattle.laws.proofs.Below.{below_none, below_next, below_fails}
use Rattle.board.specs.Form.{levels_ok}
use Rattle.board.proofs.TestLaws.{entry_before, rises, before-next, falls, levels-test, levels-asked}
use Rattle.board.proofs.form.levels_ok.Goals as goal

pub returns-then-depth-gt-LEVELS : goal.returns-then-depth-gt-LEVELS
unfolding levels_ok
returns-then-depth-gt-LEVELS c = rw (lt-leb _ 64 c.if-depth-gt-LEVELS.true)

pub loop-i-init : goal.loop-i-init
unfolding entry_before
loop-i-init c = (refl, below_none _)

pub returns-then-v-u : goal.returns-then-v-u
returns-then-v-u c =
    let a = c.args in
    let v = c.loop-i.invariant in
    rw (
      levels-test a.depth a.records a.levels.now c.if-depth-gt-LEVELS.false,
      below_fails a.depth _ (rises a.levels.now) c.loop-i-test.true (falls _ _ (rw v.0 at c.if-v-u.true)),
    )

pub loop-i-preserved : goal.loop-i-preserved
unfolding rises
loop-i-preserved c =
    let v = c.loop-i.invariant in
    (sym (before-next _ _), below_next _ _ v.1 (le-leb _ _ (rw v.0 at c.if-v-u.false)))

pub returns-then-u-records : goal.returns-then-u-records
returns-then-u-records c =
    let v = c.loop-i.invariant in
    rw (levels-asked _ _ _ _ _ c.if-depth-gt-LEVELS.false (omega arith) v.0 v.1, le-leb _ _ c.if-u-records.true) c.none_from.ensures

pub returns-else-u-records : goal.returns-else-u-records
returns-else-u-records c =
    let a = c.args in
    let v = c.loop-i.invariant in
    rw (levels-asked a.depth a.records _ _ a.levels.now c.if-depth-gt-LEVELS.false (omega arith) v.0 v.1, lt-leb _ _ c.if-u-records.false)
