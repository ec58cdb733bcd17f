use native.Mathlib.Omega.{arith}
use Rattle.bits.proofs.Members.{has-none}
use Rattle.walks.proofs.first_open.Goals as goal

pub returns-then-places-eq0 : goal.returns-then-places-eq0
returns-then-places-eq0 c = grind (arith, has-none)
