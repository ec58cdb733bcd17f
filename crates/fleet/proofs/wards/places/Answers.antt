use native.Mathlib.Omega.{arith}
use mathlib.Core.Path.{sym}
use Rattle.laws.proofs.Sum.{sum-none, sum-next}
use Rattle.fleet.proofs.wards.places.Goals as goal

pub loop-j-init : goal.loop-j-init
loop-j-init c = (omega arith, sym (sum-none _))

pub loop-j-preserved : goal.loop-j-preserved
loop-j-preserved c = (omega (arith, c.loop-j.invariant.0, c.count-all.ensures.1), sum-next _ _ c.loop-j.invariant.1 c.count-all.ensures.0)
