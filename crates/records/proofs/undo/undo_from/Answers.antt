use mathlib.Core.Path.{◌≡◌, refl, sym, ◌∙◌}
use Prim.Native.Nat.{◌-◌}
use native.Mathlib.Omega.{arith}
use borrow.Author.Tests.{not-true, not-false}
use Rattle.records.specs.Trail.{first_of, second_of}
use Rattle.records.proofs.UndoLaws.{many-none, many-on, many-stop}
use Rattle.records.proofs.UndoingLaws.{follows_by}
use Rattle.records.proofs.undo.undo_from.Goals as goal

pub loop-i-init : goal.loop-i-init
loop-i-init c = (c.requires.fits_value.1, λ b h. (b, h, refl))

pub undo_one-u-requires : goal.undo_one-u-requires
undo_one-u-requires c =
    let b = c.requires.fits_value.0 in
    let r = c.loop-i.invariant.1 b.0 b.1 in
    (r.0, r.1)

pub returns-then-not-u : goal.returns-then-not-u
unfolding first_of second_of
returns-then-not-u c =
    λ b h.
    let r = c.loop-i.invariant.1 b h in
    let g = c.undo_one-u.ensures r.0 r.1 in
    follows_by _ _ _ _ _ (r.2 ∙ many-stop _ _ _ _ _ c.loop-i-test.true (g.0 ∙ not-true _ c.if-not-u.true)) g

pub loop-i-preserved : goal.loop-i-preserved
unfolding first_of second_of
loop-i-preserved c =
    let fits = not-false _ c.if-not-u.false in (
      fits,
      λ b h.
          let r = c.loop-i.invariant.1 b h in
          let g = c.undo_one-u.ensures r.0 r.1 in
          (_, g.1, r.2 ∙ many-on _ _ _ _ _ c.loop-i-test.true (g.0 ∙ fits)),
    )

pub returns : goal.returns
returns c =
    let v = c.loop-i.invariant in
    let none : c.loop-i.i - c.args.base ≡ 0 = omega arith in
    λ b h.
    let r = v.1 b h in
    follows_by _ _ _ _ _ (r.2 ∙ rw none (many-none _ _ _ _)) (sym v.0, r.1)
