use native.Mathlib.Omega.{arith}
use Rattle.listing.specs.Text.{field, refused_line}
use Rattle.listing.proofs.PutLaws.{put_then, takes-text}
use Rattle.listing.proofs.TextLaws.{takes-number}
use Rattle.listing.proofs.put_refused.Goals as goal

pub put_byte-requires : goal.put_byte-requires
put_byte-requires c = omega (arith, takes-text c.put_text-i.ensures, takes-number _ c.put_number-j.ensures)

pub returns : goal.returns
unfolding field refused_line
returns c = put_then (put_then c.put_text-i.ensures c.put_number-j.ensures) c.put_byte.ensures
