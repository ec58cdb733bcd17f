use native.Mathlib.Omega.{arith}
use Rattle.listing.proofs.PutLaws.{put_copied}
use Rattle.listing.proofs.put_text.Goals as goal

pub returns : goal.returns
returns c = put_copied _ _ _ _ _ c.copy_from_slice.ensures.after (omega arith) c.requires
