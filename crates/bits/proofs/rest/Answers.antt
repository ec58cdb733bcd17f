use Rattle.bits.proofs.Masks.{rest-mask}
use borrow.Author.Rules.{rules}
use Rattle.bits.proofs.rest.Goals as goal

pub returns : goal.returns
returns c = rest-mask _ c.requires c.ranges.w.fits
