use mathlib.Core.Path.{◌≡◌}
use Rattle.board.specs.Route.{word_of}
use Rattle.board.proofs.route.word.Given as goal

abbrev pub invariant-loop-p : goal.invariant-loop-p
invariant-loop-p l = l.w ≡ word_of l.p-index l.route
