use mathlib.Core.Bool.{false}
use Rattle.walks.specs.Walks.{fits_at, met_ahead}
use Rattle.walks.proofs.Riding.{Back}
use Rattle.walks.proofs.backward.Given as goal

abbrev pub invariant-loop-i : goal.invariant-loop-i
invariant-loop-i l = Back l.route (fits_at l.h l.ride) (met_ahead l.route l.partner) false l.ride.legs l.word l.i l.w l.on
