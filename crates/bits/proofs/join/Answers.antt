use mathlib.Core.Path.{refl}
use Rattle.bits.specs.Places.{join}
use Rattle.bits.proofs.join.Goals as goal

pub returns : goal.returns
unfolding join
returns c = refl
