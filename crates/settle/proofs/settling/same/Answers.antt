use mathlib.Core.Path.{◌≡◌, refl, sym, ◌∙◌}
use Prim.Native.Nat.{◌+◌, ◌-◌}
use native.Mathlib.Omega.{arith}
use lib.Dec.{eqb}
use lib.ListN.{get_or}
use borrow.Author.Tests.{eq-eqb}
use Rattle.laws.proofs.Below.{below_none, below-ends, flag-goes, flag-done}
use Rattle.settle.proofs.settling.same.Goals as goal

pub loop-i-init : goal.loop-i-init
loop-i-init c = below_none _

pub loop-i-preserved : goal.loop-i-preserved
loop-i-preserved c = flag-goes _ (λ k. eqb (get_or c.args.a.now k 0) (get_or c.args.b.now k 0)) c.loop-i.invariant refl

pub returns : goal.returns
returns c =
    let e : 64 - c.args.n + c.args.n ≡ 64 = omega (arith, c.requires.2) in
    flag-done _ _ _ c.loop-i.auto.i-end c.loop-i-test.false c.loop-i.invariant
    ∙ sym (rw e at (below-ends (64 - c.args.n) _ _ (λ i h. eq-eqb _ _ (c.requires.3 i h))))
