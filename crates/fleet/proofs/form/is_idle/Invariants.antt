use mathlib.Core.Path.{◌≡◌}
use mathlib.Core.Bool.{◌&&◌}
use lib.Dec.{eqb}
use Rattle.laws.specs.Basic.{all_below}
use Rattle.board.specs.Board.{state_of}
use Rattle.fleet.proofs.TestLaws.{entry_none}
use Rattle.fleet.proofs.form.is_idle.Given as goal

abbrev pub invariant-loop-i : goal.invariant-loop-i
invariant-loop-i l = eqb l.all 0 ≡ eqb l.initial.all 0 && all_below l.i (entry_none (state_of l.route 0 l.sets 0 0 l.levels 0 0))
