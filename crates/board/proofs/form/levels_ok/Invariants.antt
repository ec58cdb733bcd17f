use mathlib.Core.Path.{◌≡◌}
use mathlib.Core.Bool.{true}
use Rattle.laws.specs.Basic.{all_below}
use Rattle.board.proofs.TestLaws.{entry_before, rises}
use Rattle.board.proofs.form.levels_ok.Given as goal

abbrev pub invariant-loop-i : goal.invariant-loop-i
invariant-loop-i l = (l.u ≡ entry_before l.levels l.i) × (all_below l.i (rises l.levels) ≡ true)
