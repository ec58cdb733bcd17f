use mathlib.Core.Bool.{true}
use Rattle.walks.specs.Walks.{fits_at, nobody}
use Rattle.walks.proofs.Riding.{Forth}
use Rattle.walks.proofs.from_start.Given as goal

abbrev pub invariant-loop-i : goal.invariant-loop-i
invariant-loop-i l = Forth l.route (fits_at l.h l.ride) nobody true l.word l.i l.w l.on
