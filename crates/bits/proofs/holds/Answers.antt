use Rattle.bits.specs.Places.{has, digit}
use borrow.Author.Rules.{rules}
use Rattle.bits.proofs.holds.Goals as goal

pub returns : goal.returns
unfolding has digit
returns c = search rules
