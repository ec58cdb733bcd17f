use Rattle.day.specs.Tell.{day_of}
use Rattle.gaps.specs.Gaps.{fits_place}
use Rattle.gaps.proofs.GapLaws.{Sifting}
use Rattle.gaps.proofs.stand.Given as goal

abbrev pub invariant-loop-p : goal.invariant-loop-p
invariant-loop-p l =
    Sifting (fits_place (day_of l.s) l.route l.spots l.leave l.l l.most l.trial) l.trial.places l.p-iterator.left l.w
