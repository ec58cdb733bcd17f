use native.Mathlib.Omega.{arith}
use Rattle.walks.proofs.Meeting.{minus-has}
use Rattle.walks.proofs.less.Goals as goal

pub returns : goal.returns
returns c = minus-has (omega arith) (omega arith) c.minus.ensures
