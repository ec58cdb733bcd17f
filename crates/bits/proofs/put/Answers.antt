use Rattle.bits.proofs.Masks.{shl_one, with-mask}
use borrow.Author.Rules.{rules}
use Rattle.bits.proofs.put.Goals as goal

pub returns : goal.returns
returns c = rw (shl_one c.args.p c.requires) (with-mask _ _ c.requires)
