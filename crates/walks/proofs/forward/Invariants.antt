use mathlib.Core.Bool.{false}
use Rattle.walks.specs.Walks.{fits_at, met_behind}
use Rattle.walks.proofs.Riding.{Forth}
use Rattle.walks.proofs.forward.Given as goal

abbrev pub invariant-loop-i : goal.invariant-loop-i
invariant-loop-i l = Forth l.route (fits_at l.h l.ride) (met_behind l.route l.partner) false l.word l.i l.w l.on
