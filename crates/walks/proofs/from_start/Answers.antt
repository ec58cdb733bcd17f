use native.Mathlib.Omega.{arith}
use mathlib.Core.Path.{◌≡◌, sym, ◌∙◌}
use borrow.Author.Tests.{leb-true}
use Rattle.walks.specs.Walks.{from_start}
use Rattle.walks.proofs.WalkLaws.{kept-pass, kept-zero}
use Rattle.walks.proofs.Riding.{forth-begin, forth-next, start-roomy}
use Rattle.walks.proofs.from_start.Goals as goal

pub returns-then-word-eq0 : goal.returns-then-word-eq0
returns-then-word-eq0 c = kept-zero c.if-word-eq0.true

pub returns-then-fits_all : goal.returns-then-fits_all
returns-then-fits_all c = kept-pass (λ i a b. start-roomy c.requires (leb-true _ _ (sym c.fits_all.ensures ∙ c.if-fits_all.true)) i b)

pub loop-i-init : goal.loop-i-init
loop-i-init c = forth-begin _ _ _ _

pub loop-i-preserved : goal.loop-i-preserved
loop-i-preserved c = forth-next _ _ _ _ c.loop-i.invariant c.rides-on.ensures c.strike-w.ensures

pub returns : goal.returns
unfolding from_start
returns c =
    let e : c.loop-i.i ≡ c.args.ride.legs = omega arith in
    rw e at c.loop-i.invariant.kept
