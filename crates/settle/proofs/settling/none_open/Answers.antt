use mathlib.Core.Path.{refl, sym, ◌∙◌}
use lib.Dec.{eqb}
use lib.ListN.{get_or}
use Rattle.laws.proofs.Below.{below_none, flag-goes}
use Rattle.bits.proofs.Masks.{or-none}
use Rattle.settle.proofs.settling.none_open.Goals as goal

pub loop-i-init : goal.loop-i-init
loop-i-init c = below_none _

pub loop-i-preserved : goal.loop-i-preserved
loop-i-preserved c =
    let ws = c.args.sets.now in
    flag-goes _ (λ k. eqb (get_or ws k 0) 0) c.loop-i.invariant refl ∙ sym (or-none c.loop-i.all (get_or ws c.loop-i.i 0))
