use mathlib.Core.Path.{refl}
use Rattle.laws.specs.Basic.{tab}
use Rattle.fleet.proofs.Fleet.of_one.Goals as goal

pub returns : goal.returns
unfolding tab
returns c = rw c.none-idle.ensures refl
