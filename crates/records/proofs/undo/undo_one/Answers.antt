use native.Mathlib.Omega.{arith}
use Rattle.records.proofs.UndoLaws.{one-shrunk, one_placed, one-marked, one-obliged, one-other}
use Rattle.records.proofs.UndoingLaws.{follows_by}
use Rattle.records.proofs.undo.undo_one.Goals as goal

pub returns-in-1 : goal.returns-in-1
returns-in-1 c = λ b h. follows_by _ _ _ _ _ (one-shrunk _ _ _ _ c.in-1.is) (c.undo_shrunk.ensures b _ _ h)

pub returns-in-2 : goal.returns-in-2
returns-in-2 c = λ b h. follows_by _ _ _ _ _ (one_placed _ _ _ _ c.in-2.is) (c.undo_placed.ensures b h)

pub returns-in-3 : goal.returns-in-3
returns-in-3 c = λ b h. follows_by _ _ _ _ _ (one-marked _ _ _ _ c.in-3.is) (c.undo_marked.ensures _ b _ _ _ h)

pub returns-in-4 : goal.returns-in-4
returns-in-4 c = λ b h. follows_by _ _ _ _ _ (one-obliged _ _ _ _ c.in-4.is) (c.undo_obliged.ensures _ b _ _ _ h)

pub returns-in_default : goal.returns-in_default
returns-in_default c =
    λ b h.
    follows_by _ _ _ _ _ (one-other _ _ _ _ (omega arith) (omega arith) (omega arith) (omega arith)) (c.misfit.ensures _ b _ _ _ h)
