use Rattle.verdict.proofs.Pairing.{meets-mask}
use Rattle.verdict.proofs.meets.Goals as goal

pub returns : goal.returns
returns c = meets-mask _ _ c.ranges.a.fits c.ranges.b.fits
