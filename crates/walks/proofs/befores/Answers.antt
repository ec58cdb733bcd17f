use lib.Seq.{get_or-set_same}
use Rattle.bits.specs.Places.{with}
use native.Mathlib.Omega.{arith}
use mathlib.Core.Path.{refl, sym, ap, ◌∙◌}
use Prim.Native.Nat.{ℕ, ◌+◌}
use lib.ListN.{get_or}
use Rattle.walks.proofs.Meeting.{before-none, before_more}
use Rattle.walks.proofs.befores.Goals as goal

pub loop-i-init : goal.loop-i-init
loop-i-init c = rw c.requires.3 (refl, before-none _)

pub loop-i-preserved : goal.loop-i-preserved
loop-i-preserved c =
    let v = c.loop-i in
    let p = get_or c.args.route.now v.i 0 in (
      sym (get_or-set_same v.before (v.i + 1) _ 0 (omega (arith, v.invariant.1.long))),
      before_more (c.requires.2 v.i c.loop-i-test.true) (omega arith) (c.put-w.ensures ∙ ap (λ (w : ℕ). with w p) v.invariant.0) v.invariant.1,
    )
