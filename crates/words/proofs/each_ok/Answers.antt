use Rattle.laws.proofs.Below.{below_none, flag-goes}
use Rattle.words.proofs.each_ok.Goals as goal

pub loop-i-init : goal.loop-i-init
loop-i-init c = below_none _

pub loop-i-preserved : goal.loop-i-preserved
loop-i-preserved c = flag-goes _ _ c.loop-i.invariant c.entry_ok-ok.ensures
