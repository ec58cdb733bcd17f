use Rattle.listing.specs.Text.{stop_text}
use Rattle.listing.proofs.PutLaws.{put_then}
use Rattle.listing.proofs.put_stop.Goals as goal

pub returns : goal.returns
unfolding stop_text
returns c =
    put_then c.put_byte-i.ensures c.put_number.ensures
