use mathlib.Core.Bool.{true}
use Rattle.walks.specs.Walks.{fits_at, nobody}
use Rattle.walks.proofs.Riding.{Back}
use Rattle.walks.proofs.to_end.Given as goal

abbrev pub invariant-loop-i : goal.invariant-loop-i
invariant-loop-i l = Back l.route (fits_at l.h l.ride) nobody true l.ride.legs l.word l.i l.w l.on
