use native.Mathlib.Omega.{arith}
use mathlib.Core.Path.{refl}
use lib.Count.{trailing_le}
use Rattle.bits.specs.Places.{lowest}
use Rattle.bits.proofs.lowest.Goals as goal

pub returns : goal.returns
unfolding lowest
returns c = (refl, trailing_le 64 c.args.w)
