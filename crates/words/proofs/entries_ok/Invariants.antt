use Prim.Native.Nat.{ℕ, ◌+◌, ◌<◌, ◌≤◌}
use Rattle.words.specs.Word.{word_at}
use Rattle.words.specs.Quarters.{or_of_four}
use Rattle.words.proofs.entries_ok.Given as goal

abbrev pub invariant-loop-i : goal.invariant-loop-i
invariant-loop-i l = (k : ℕ) → k < l.i → or_of_four (word_at l.s) (l.from + k) l.part ≤ l.all

abbrev pub invariant-loop-i-2 : goal.invariant-loop-i-2
invariant-loop-i-2 l = (k : ℕ) → k < l.i → word_at l.s (l.from + k) ≤ l.all
