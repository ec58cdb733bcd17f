use native.Mathlib.Omega.{arith}
use mathlib.Core.Path.{◌≡◌, sym, ap, ◌∙◌}
use mathlib.Core.Bool.{not}
use Prim.Native.Nat.{ℕ}
use Rattle.laws.proofs.Below.{below_none, below_next, below_fails, below-done}
use Rattle.board.specs.Route.{word_of}
use Rattle.board.proofs.RouteLaws.{word_none, word_more}
use Rattle.board.specs.Tests.{seen_of}
use Rattle.board.proofs.TestLaws.{stop-far, stop-seen}
use Rattle.board.proofs.form.seen_of.Goals as goal

pub loop-i-init : goal.loop-i-init
loop-i-init c = (sym (word_none _), below_none _)

pub returns-then-n-e : goal.returns-then-n-e
unfolding seen_of
returns-then-n-e c =
    let h = c.loop-i-test.true in
    rw (below_fails c.args.stops _ _ h (stop-far _ _ _ _ h c.if-n-e.true))

pub returns-then-holds : goal.returns-then-holds
unfolding seen_of
returns-then-holds c =
    let h = c.loop-i-test.true in
    let tested = stop-seen _ _ _ _ h (omega arith) (omega arith) c.if-n-e.false c.loop-i.invariant.0 c.holds.ensures in
    rw (below_fails c.args.stops _ _ h (tested ∙ ap not c.if-holds.true))

pub loop-i-preserved : goal.loop-i-preserved
loop-i-preserved c =
    let v = c.loop-i.invariant in
    let tested = stop-seen _ _ _ _ c.loop-i-test.true (omega arith) (omega arith) c.if-n-e.false v.0 c.holds.ensures in
    (c.put-seen.ensures ∙ rw v.0 (sym (word_more _ _)), below_next _ _ v.1 (tested ∙ ap not c.if-holds.false))

pub returns : goal.returns
unfolding seen_of
returns c =
    let v = c.loop-i.invariant in
    let e : c.loop-i.i ≡ c.args.stops = omega arith in
    rw (sym (below-done _ _ _ (omega arith) c.loop-i-test.false v.1)) (v.0 ∙ ap (λ (i : ℕ). word_of i c.args.route.now) e)
