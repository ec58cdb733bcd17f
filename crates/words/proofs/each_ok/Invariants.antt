use Rattle.laws.specs.Basic.{all_below}
use Rattle.words.specs.Word.{entry_ok}
use mathlib.Core.Path.{◌≡◌}
use Rattle.words.proofs.each_ok.Given as goal

abbrev pub invariant-loop-i : goal.invariant-loop-i
invariant-loop-i l = all_below l.i (entry_ok l.s l.from) ≡ l.ok
