use mathlib.Core.Path.{refl}
use Rattle.walks.proofs.WalkLaws.{kept-pass}
use Rattle.settle.specs.Round.{load_rides}
use Rattle.settle.proofs.strike.left_of.Goals as goal

pub returns-in-Clean : goal.returns-in-Clean
unfolding load_rides
returns-in-Clean c = rw c.in-Clean.is (rw c.ride_of.ensures at c.from_start.ensures)

pub returns-in-Soiled : goal.returns-in-Soiled
unfolding load_rides
returns-in-Soiled c = rw c.in-Soiled.is (rw c.ride_of-in-Soiled.ensures at c.to_end.ensures)

pub returns-in-Transfer : goal.returns-in-Transfer
unfolding load_rides
returns-in-Transfer c = rw c.in-Transfer.is (kept-pass (λ i a b. refl))
