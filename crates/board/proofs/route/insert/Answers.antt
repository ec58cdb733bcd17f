use Rattle.board.proofs.RouteLaws.{insert-copy}
use native.Mathlib.Numerals.{add-one}
use native.Mathlib.Omega.{arith}
use Rattle.board.proofs.route.insert.Goals as goal

pub returns : goal.returns
returns c = rw (c.copy_within.ensures.after, add-one) (insert-copy 63 _ _ _ c.requires.1 (omega arith))
