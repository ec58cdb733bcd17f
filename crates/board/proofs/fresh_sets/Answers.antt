use native.Mathlib.Omega.{arith}
use Rattle.board.proofs.FreshForm.{filling-none, filling-more, filling-all}
use Rattle.board.proofs.fresh_sets.Goals as goal

pub loop-y-init : goal.loop-y-init
loop-y-init c = filling-none _ _

pub loop-y-preserved : goal.loop-y-preserved
loop-y-preserved c = filling-more _ _ c.loop-y.invariant (omega arith) (omega arith) (omega arith) c.fresh_set.ensures

pub returns : goal.returns
returns c = filling-all _ _ c.loop-y.invariant c.loop-y-test.false
