use native.Mathlib.Omega.{arith}
use lib.ListN.{take}
use Rattle.verdict.proofs.Pairing.{owes-told}
use Rattle.verdict.proofs.owes.Goals as goal

pub returns : goal.returns
returns c = λ d told.
    let a = c.args in
    owes-told d (take a.stops a.route.now) a.marks c.word-on.result a.partners a.x (omega arith) (omega arith) c.word-on.ensures told
    c.has-placed.ensures c.has-marked.ensures (rw (← c.join.ensures) c.meets-pair.ensures)
