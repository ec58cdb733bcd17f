use mathlib.Core.Path.{◌≡◌}
use lib.Dec.{eqb}
use Rattle.laws.specs.Basic.{all_below}
use Rattle.board.specs.Tests.{stop_shut}
use Rattle.board.proofs.form.stops_shut.Given as goal

abbrev pub invariant-loop-i : goal.invariant-loop-i
invariant-loop-i l = all_below l.i (stop_shut l.route l.sets) ≡ eqb l.places 0
