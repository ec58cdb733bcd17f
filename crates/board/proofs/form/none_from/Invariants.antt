use mathlib.Core.Path.{◌≡◌}
use lib.Dec.{eqb}
use Rattle.laws.specs.Basic.{all_below}
use Rattle.board.specs.Tests.{zero_from}
use Rattle.board.proofs.form.none_from.Given as goal

abbrev pub invariant-loop-i : goal.invariant-loop-i
invariant-loop-i l = all_below l.i (zero_from l.from l.a) ≡ eqb l.rest 0
