use native.Mathlib.Omega.{arith}
use Rattle.along.proofs.SpotLaws.{spots-none, spots-more}
use Rattle.along.proofs.spots.spots.Goals as goal

pub loop-i-init : goal.loop-i-init
loop-i-init c = rw c.requires.at_value (spots-none _)

pub loop-i-preserved : goal.loop-i-preserved
loop-i-preserved c = spots-more (c.requires.route_len.2 c.loop-i.i (omega arith)) c.loop-i.invariant
