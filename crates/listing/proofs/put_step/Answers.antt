use native.Mathlib.Omega.{arith}
use Rattle.listing.proofs.PutLaws.{put_then}
use Rattle.listing.specs.Text.{step_line}
use Rattle.listing.proofs.TextLaws.{three-takes}
use Rattle.listing.proofs.put_step.Goals as goal

pub put_tail-requires : goal.put_tail-requires
put_tail-requires c = omega (arith, three-takes _ _ _ _ _ _ _ c.put_head-i.ensures)

pub returns : goal.returns
unfolding step_line
returns c =
    put_then c.put_head-i.ensures c.put_tail.ensures
