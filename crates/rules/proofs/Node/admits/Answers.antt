use mathlib.Core.Path.{refl}
use Rattle.rules.specs.Class.{admits}
use Rattle.rules.proofs.Node.admits.Goals as goal

pub returns : goal.returns
unfolding admits
returns c = refl
