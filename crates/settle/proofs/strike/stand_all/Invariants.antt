use lib.ListN.{get_or}
use Rattle.day.specs.Tell.{day_of}
use Rattle.gaps.specs.Gaps.{fits_in, gap_at}
use Rattle.settle.proofs.RoundLaws.{Upto}
use Rattle.settle.proofs.strike.stand_all.Given as goal

abbrev pub invariant-loop-x : goal.invariant-loop-x
invariant-loop-x l =
    Upto l.route l.legs (λ y i. fits_in (day_of l.s) y (gap_at l.route l.leave l.l l.most l.total (get_or l.route i 0) i)) l.initial.new l.x l.new
