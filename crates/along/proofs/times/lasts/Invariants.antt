use lib.ListN.{take}
use mathlib.Core.Path.{◌≡◌}
use lib.IntN.{pos}
use Rattle.rules.specs.Along.{last_at}
use Rattle.day.specs.Tell.{day_of}
use Rattle.along.proofs.TimeLaws.{From}
use Rattle.along.proofs.times.lasts.Given as goal

abbrev pub invariant-loop-i : goal.invariant-loop-i
invariant-loop-i l = (l.t ≡ last_at (day_of l.s) (take l.stops l.route) l.i) × From (last_at (day_of l.s) (take l.stops l.route)) (pos 0) l.i l.stops l.l
