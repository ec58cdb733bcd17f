use Prim.Native.Nat.{◌-◌}
use lib.ListN.{take}
use Rattle.day.specs.Tell.{day_of}
use Rattle.settle.specs.Round.{mixed_leaves}
use Rattle.settle.proofs.RoundLaws.{Upto}
use Rattle.settle.proofs.strike.strike_mixed.Given as goal

abbrev pub invariant-loop-x : goal.invariant-loop-x
invariant-loop-x l = Upto l.route (l.stops - 1) (mixed_leaves (day_of l.s) (take l.stops l.route)) l.initial.new l.x l.new
