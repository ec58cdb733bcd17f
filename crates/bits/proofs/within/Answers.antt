use Rattle.bits.proofs.Masks.{within-mask}
use Rattle.bits.proofs.within.Goals as goal

pub returns : goal.returns
returns c = within-mask _ _ c.ranges.a.fits c.ranges.b.fits
