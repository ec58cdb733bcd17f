use Rattle.std.proofs.Common.{arith}
use Rattle.measure.proofs.diagonal.Goals as goal

pub overflow_mul-result : goal.overflow_mul-result
overflow_mul-result c = let l = c.in-Ok.ensures.layout in omega (arith, l.seconds, l.fine.n-high, l.fine.m-high)

pub returns-in-Ok : goal.returns-in-Ok
returns-in-Ok c = let l = c.in-Ok.ensures.layout in omega (arith, l.seconds, l.fine.n-high, l.fine.m-high)
