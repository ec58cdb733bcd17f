use mathlib.Core.Path.{sym}
use Rattle.bits.proofs.Members.{with-far}
use borrow.Author.Rules.{rules}
use Rattle.bits.proofs.with.Goals as goal

pub returns-else-p-lt-PLACES : goal.returns-else-p-lt-PLACES
returns-else-p-lt-PLACES c = sym (with-far _ _ c.if-p-lt-PLACES.false)
