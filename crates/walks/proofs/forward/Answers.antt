use native.Mathlib.Omega.{arith}
use mathlib.Core.Path.{◌≡◌, refl, sym, ◌∙◌}
use borrow.Author.Tests.{leb-true}
use Rattle.walks.specs.Walks.{rides_up}
use Rattle.walks.proofs.WalkLaws.{kept-zero}
use Rattle.walks.proofs.Riding.{forth-begin, forth-next}
use Rattle.walks.proofs.Meeting.{kept-front, first-rides}
use Rattle.walks.proofs.forward.Goals as goal

pub returns-then-word-eq0 : goal.returns-then-word-eq0
returns-then-word-eq0 c = kept-zero c.if-word-eq0.true

pub returns-then-fits_all : goal.returns-then-fits_all
returns-then-fits_all c =
    let room = leb-true _ _ (sym c.fits_all.ensures ∙ c.if-fits_all.true) in
    let rides = first-rides c.requires.0 room c.requires.1 c.args.partner c.requires.2 refl c.min-end.ensures c.first_open-first.ensures in
    kept-front c.requires.1 (omega arith) c.less.ensures rides

pub loop-i-init : goal.loop-i-init
loop-i-init c = forth-begin _ _ _ _

pub loop-i-preserved : goal.loop-i-preserved
loop-i-preserved c = forth-next _ _ _ _ c.loop-i.invariant (rw c.holds.ensures at c.rides-on.ensures) c.strike-w.ensures

pub returns : goal.returns
unfolding rides_up
returns c =
    let e : c.loop-i.i ≡ c.args.ride.legs = omega arith in
    rw e at c.loop-i.invariant.kept
