use mathlib.Core.Path.{refl, ◌∙◌}
use Rattle.records.proofs.UndoLaws.{undone-no, undone-yes}
use Rattle.records.proofs.UndoingLaws.{undoing-marked, test-marked, follows_by}
use Rattle.records.proofs.undo.undo_marked.Goals as goal

pub returns-then-not-fits : goal.returns-then-not-fits
returns-then-not-fits c =
    λ n b next last sets h.
    follows_by n _ next last sets (undone-no _ _ (test-marked n b _ next last sets h _ _ c.has.ensures c.has-2.ensures ∙ c.if-not-fits.true))
    (c.misfit.ensures n b next last sets h)

pub returns : goal.returns
returns c =
    λ n b next last sets h.
    rw c.without.ensures
    (follows_by n _ next last sets (undone-yes _ _ (test-marked n b _ next last sets h _ _ c.has.ensures c.has-2.ensures ∙ c.if-not-fits.false))
    (refl, undoing-marked n b _ next last sets h _))
