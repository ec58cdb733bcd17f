use mathlib.Core.Path.{refl, sym, ◌∙◌}
use native.Mathlib.Omega.{arith}
use Rattle.records.proofs.UndoLaws.{undone-no, undone-yes, shrunk-out}
use Rattle.records.proofs.UndoingLaws.{undoing-shrunk, inner-low, test-shrunk, follows_by}
use Rattle.records.proofs.undo.undo_shrunk.Goals as goal

pub returns-then-not-inner : goal.returns-then-not-inner
returns-then-not-inner c =
    λ b next last h.
    follows_by _ _ _ _ _ (undone-no _ _ (shrunk-out _ _ _ _ (sym c.inner.ensures ∙ c.if-not-inner.true))) (c.misfit.ensures _ _ _ _ _ h)

pub offset_bounds-sets-x : goal.offset_bounds-sets-x
offset_bounds-sets-x c = omega (arith, inner-low _ _ _ _ _ _ c.requires.3 _ (sym c.inner.ensures ∙ c.if-not-inner.false))

pub bounds-sets-x : goal.bounds-sets-x
bounds-sets-x c = inner-low _ _ _ _ _ _ c.requires.3 _ (sym c.inner.ensures ∙ c.if-not-inner.false)

pub returns-then-not-fits : goal.returns-then-not-fits
returns-then-not-fits c =
    let node = sym c.inner.ensures ∙ c.if-not-inner.false in
    λ b next last h.
    let fits = test-shrunk _ _ _ _ _ _ h _ _ node c.cut_set.ensures c.has.ensures c.grows.ensures in
    follows_by _ _ _ _ _ (undone-no _ _ (fits ∙ c.if-not-fits.true)) (c.misfit-then-not-fits.ensures _ _ _ _ _ h)

pub offset_bounds-sets-x-2 : goal.offset_bounds-sets-x-2
offset_bounds-sets-x-2 c = omega (arith, inner-low _ _ _ _ _ _ c.requires.3 _ (sym c.inner.ensures ∙ c.if-not-inner.false))

pub bounds-sets-x-2 : goal.bounds-sets-x-2
bounds-sets-x-2 c = inner-low _ _ _ _ _ _ c.requires.3 _ (sym c.inner.ensures ∙ c.if-not-inner.false)

pub returns : goal.returns
returns c =
    let node = sym c.inner.ensures ∙ c.if-not-inner.false in
    λ b next last h.
    let fits = test-shrunk _ _ _ _ _ _ h _ _ node c.cut_set.ensures c.has.ensures c.grows.ensures ∙ c.if-not-fits.false in
    follows_by _ _ _ _ _ (undone-yes _ _ fits) (refl, undoing-shrunk _ _ _ _ _ _ h _ _ c.ranges.w.fits fits)
