use native.Mathlib.Omega.{arith}
use mathlib.Core.Path.{◌≡◌, refl, sym, ◌∙◌}
use borrow.Author.Tests.{leb-true}
use Rattle.walks.specs.Walks.{rides_down}
use Rattle.walks.proofs.WalkLaws.{kept-zero}
use Rattle.walks.proofs.Riding.{back-begin, back-next}
use Rattle.walks.proofs.Meeting.{kept_back, last-rides}
use Rattle.walks.proofs.backward.Goals as goal

pub returns-then-word-eq0 : goal.returns-then-word-eq0
returns-then-word-eq0 c = kept-zero c.if-word-eq0.true

pub returns-then-fits_all : goal.returns-then-fits_all
returns-then-fits_all c =
    let room = leb-true _ _ (sym c.fits_all.ensures ∙ c.if-fits_all.true) in
    let rides = last-rides c.requires.0 room c.requires.1 c.args.partner c.requires.2 refl (λ h. omega arith) (λ h. omega arith) c.last_open-last.ensures in
    kept_back c.requires.1 c.last_open-last.ensures.1 _ c.less.ensures c.less-then-fits_all.ensures rides

pub loop-i-init : goal.loop-i-init
loop-i-init c = back-begin _ _ _ _ _

pub loop-i-preserved : goal.loop-i-preserved
loop-i-preserved c = back-next _ _ _ _ _ c.loop-i.invariant (omega arith) (omega arith) (rw c.holds.ensures at c.rides-on.ensures) c.strike-w.ensures

pub returns : goal.returns
unfolding rides_down
returns c =
    let e : c.loop-i.i ≡ 0 = omega arith in
    rw e at c.loop-i.invariant.kept
