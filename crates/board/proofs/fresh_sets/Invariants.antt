use lib.ListN.{get_or}
use Rattle.rules.specs.Class.{admits}
use Rattle.board.proofs.FreshForm.{Filling}
use Rattle.board.proofs.fresh_sets.Given as goal

abbrev pub invariant-loop-y : goal.invariant-loop-y
invariant-loop-y l = Filling l.n (λ x. admits (get_or l.classes x 0) l.bit) l.y l.sets
