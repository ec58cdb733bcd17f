use mathlib.Core.Path.{refl, ◌∙◌}
use native.Mathlib.Omega.{arith}
use Rattle.along.proofs.ReadyLaws.{nodes-most}
use Rattle.along.proofs.Facts.{ready-unmarked, past_same}
use Rattle.van.proofs.Ready.{ready-settled, settled_is}
use Rattle.van.proofs.settling.Goals as goal

pub settle-rounds-requires-clause-ready : goal.settle-rounds-requires-clause-ready
settle-rounds-requires-clause-ready c = (ready-unmarked c.requires.ready.0, refl, omega (arith, c.requires.ready.2))

pub settle-requires-clause-sets_len : goal.settle-requires-clause-sets_len
settle-requires-clause-sets_len c =
    let r = c.requires.ready.0 in
    let new = ready-settled _ r c.settle-rounds.ensures in
    (r.sized, new.sized, nodes-most r.laid, past_same r new)

pub returns : goal.returns
returns c = λ levels. settled_is _ _ _ _ c.settle-rounds.ensures ∙ c.settle.ensures c.args.route.now levels
