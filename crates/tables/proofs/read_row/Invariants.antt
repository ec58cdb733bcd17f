use Prim.Native.Nat.{◌+◌}
use Rattle.words.specs.Word.{word_at}
use Rattle.tables.specs.Square.{Copied}
use Rattle.tables.proofs.read_row.Given as goal

abbrev pub invariant-loop-k : goal.invariant-loop-k
invariant-loop-k l = Copied l.initial.square l.to l.k (λ q. word_at l.s (l.at + q)) l.square
