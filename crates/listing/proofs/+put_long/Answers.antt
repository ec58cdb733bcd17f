use native.Mathlib.Omega.{arith}
use Rattle.listing.proofs.PutLaws.{put-length}
use Rattle.listing.proofs.TextLaws.{put-hundred, hundredth-short}
use Rattle.listing.proofs.+put_long.Goals as goal

pub put_pair-requires : goal.put_pair-requires
put_pair-requires t c =
    let p = c.put_long-last.ensures in
    (omega arith, omega (arith, p.next-is, hundredth-short c.args.v c.ranges.v.fits, put-length p))

pub returns : goal.returns
returns t c = put-hundred c.args.v c.ranges.v.fits c.if-v-lt100.false c.put_long-last.ensures c.put_pair.ensures
