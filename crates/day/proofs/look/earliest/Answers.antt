use native.Mathlib.Omega.{arith}
use native.Mathlib.Nat.{le_trans, add-zero}
use Rattle.day.proofs.Range.{ranges, told}
use Rattle.day.proofs.look.earliest.Goals as goal

pub returns : goal.returns
returns c =
    let p = c.requires in
    let d = ranges _ p.0.fine in
    told (rw (p.0.node, add-zero) at c.entry_word.ensures.is) (le_trans (d.earliest _ (omega arith)) (d.latest _ (omega arith)))
