use Rattle.bits.specs.Places.{minus}
use Rattle.bits.proofs.Masks.{shl_one, without-mask}
use borrow.Author.Rules.{rules}
use Rattle.bits.proofs.take.Goals as goal

pub returns : goal.returns
unfolding minus
returns c = rw (shl_one c.args.p c.requires) (without-mask _ _ c.ranges.w.fits c.requires)
