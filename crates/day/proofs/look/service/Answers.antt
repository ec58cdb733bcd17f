use native.Mathlib.Omega.{arith}
use Rattle.day.proofs.Range.{ranges, told}
use Rattle.day.proofs.look.service.Goals as goal

pub returns : goal.returns
returns c = let p = c.requires in told (rw p.0.node at c.entry_word.ensures.is) ((ranges _ p.0.fine).service _ (omega arith))
