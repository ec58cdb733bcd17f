use native.Mathlib.Omega.{arith}
use Rattle.listing.specs.Text.{route_line}
use Rattle.listing.proofs.PutLaws.{put_then, put-length}
use Rattle.listing.proofs.TextLaws.{stops-take}
use Rattle.listing.proofs.put_route.Goals as goal

pub put_byte-requires : goal.put_byte-requires
put_byte-requires c =
    omega (arith, stops-take c.args.route.now c.args.stops c.put_stops-j.ensures, c.put_text-i.ensures.next-is, put-length c.put_text-i.ensures)

pub returns : goal.returns
unfolding route_line
returns c =
    put_then (put_then c.put_text-i.ensures c.put_stops-j.ensures) c.put_byte.ensures
