use mathlib.Core.Path.{refl}
use Rattle.bits.specs.Places.{minus}
use Rattle.bits.proofs.minus.Goals as goal

pub returns : goal.returns
unfolding minus
returns c = refl
