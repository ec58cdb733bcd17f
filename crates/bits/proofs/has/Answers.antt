use mathlib.Core.Path.{sym}
use Rattle.bits.proofs.Members.{has-high}
use borrow.Author.Rules.{rules}
use Rattle.bits.proofs.has.Goals as goal

pub returns-else-p-lt-PLACES : goal.returns-else-p-lt-PLACES
returns-else-p-lt-PLACES c = sym (has-high _ _ c.ranges.w.fits c.if-p-lt-PLACES.false)
