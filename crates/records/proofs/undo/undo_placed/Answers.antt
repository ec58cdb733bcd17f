use mathlib.Core.Path.{refl, ◌∙◌}
use native.Mathlib.Omega.{arith}
use Rattle.records.proofs.UndoLaws.{undone-no, undone-yes}
use Rattle.records.proofs.UndoingLaws.{undoing-placed, placed-low, test-off, test-placed, follows_by}
use Rattle.records.proofs.undo.undo_placed.Goals as goal

pub returns-then-not-inner-has : goal.returns-then-not-inner-has
returns-then-not-inner-has c =
    λ b h.
    follows_by _ _ _ _ _ (undone-no _ _ (test-off _ _ _ _ _ _ h _ _ c.inner.ensures c.has.ensures c.if-not-inner-has.true))
    (c.misfit.ensures _ _ _ _ _ h)

pub bounds-last-x : goal.bounds-last-x
bounds-last-x c = (placed-low _ _ _ _ _ _ c.requires.1 _ c.args.old c.inner.ensures c.has.ensures c.if-not-inner-has.false).0

pub returns-then-not-left_legs : goal.returns-then-not-left_legs
returns-then-not-left_legs c =
    λ b h.
    let fits = test-placed _ _ _ _ _ _ h _ _ c.inner.ensures c.has.ensures c.if-not-inner-has.false c.left_legs.ensures ∙ c.if-not-left_legs.true in
    follows_by _ _ _ _ _ (undone-no _ _ fits) (c.misfit-then-not-left_legs.ensures _ _ _ _ _ h)

pub bounds-next-x : goal.bounds-next-x
bounds-next-x c = (placed-low _ _ _ _ _ _ c.requires.1 _ c.args.old c.inner.ensures c.has.ensures c.if-not-inner-has.false).0

pub bounds-next-p : goal.bounds-next-p
bounds-next-p c = (placed-low _ _ _ _ _ _ c.requires.1 _ c.args.old c.inner.ensures c.has.ensures c.if-not-inner-has.false).1

pub bounds-last-k : goal.bounds-last-k
bounds-last-k c = (placed-low _ _ _ _ _ _ c.requires.1 _ c.args.old c.inner.ensures c.has.ensures c.if-not-inner-has.false).2

pub offset_bounds-sets-x : goal.offset_bounds-sets-x
offset_bounds-sets-x c = omega (arith, placed-low _ _ _ _ _ _ c.requires.1 _ c.args.old c.inner.ensures c.has.ensures c.if-not-inner-has.false)

pub bounds-sets-x : goal.bounds-sets-x
bounds-sets-x c = (placed-low _ _ _ _ _ _ c.requires.1 _ c.args.old c.inner.ensures c.has.ensures c.if-not-inner-has.false).0

pub returns : goal.returns
returns c =
    λ b h.
    let fits = test-placed _ _ _ _ _ _ h _ _ c.inner.ensures c.has.ensures c.if-not-inner-has.false c.left_legs.ensures ∙ c.if-not-left_legs.false in
    rw c.without.ensures
    (follows_by _ _ _ _ _ (undone-yes _ _ fits) (refl, undoing-placed _ _ _ _ _ _ h _ _ c.ranges.old.fits fits))
