use Rattle.std.proofs.Common.{arith}
use Rattle.std.proofs.lemmas.Grind.{common_steps}
use Rattle.along.proofs.nodes.enter.Goals as goal

pub returns-in-Transfer : goal.returns-in-Transfer
returns-in-Transfer c = grind (arith, common_steps)
