use Rattle.board.specs.Board.{state_with}
use Rattle.board.proofs.FormLaws.{form-with}
use Rattle.van.proofs.Ready.{ready}
use Rattle.van.proofs.settle.Goals as goal

pub settling-requires-clause-ready : goal.settling-requires-clause-ready
settling-requires-clause-ready c =
    let a = c.args in
    let k = c.requires.known.0 in
    let f = form-with _ _ _ k.form in
    (ready (state_with a.route.now a.sets.now a.levels.now a.f) k.clear k.laid k.held f.0, f.1, c.requires.known.1)
