use mathlib.Core.Path.{sym, ap}
use Prim.Native.Nat.{ℕ}
use native.Mathlib.Omega.{arith}
use Rattle.laws.specs.Basic.{tab}
use Rattle.day.specs.Tell.{day_of, job_in}
use Rattle.along.proofs.ReadyLaws.{jobs-are}
use Rattle.along.proofs.Facts.{two-stops, few-nodes}
use Rattle.settle.proofs.RoundLaws.{kepts-both}
use Rattle.settle.proofs.Facts.{legs, marked}
use Rattle.settle.proofs.Rounds.{round-sets}
use Rattle.settle.proofs.strike.round.Goals as goal

pub strike_pairs-requires-clause-ready : goal.strike_pairs-requires-clause-ready
strike_pairs-requires-clause-ready c = let p = c.requires.ready in (p.0, legs p.0 p.1)

pub strike_pairs-requires-clause-marked : goal.strike_pairs-requires-clause-marked
strike_pairs-requires-clause-marked c = let p = c.requires.ready in (marked p.0 p.1.spots p.1.before, c.requires.by_node)

pub strike_loads-requires-clause-laid : goal.strike_loads-requires-clause-laid
strike_loads-requires-clause-laid c =
    let p = c.requires.ready in (p.0.laid, omega (arith, two-stops p.0), c.stand_all.ensures.long, legs p.0 p.1)

pub returns : goal.returns
returns c =
    let a = c.args in
    let r = c.requires.ready.0 in
    let e = c.requires.ready.1 in
    round-sets a.pass (day_of a.s.now) (job_in a.s.now) a.at.jobs (ap (λ (k : ℕ). tab k (job_in a.s.now)) (sym (jobs-are r.laid)))
    a.route.now r.long (two-stops r) r.most (few-nodes r) r.form.nodes a.h.now e.loads a.new.now r.form.off r.form.leg
    a.l.now e.lasts _
    (kepts-both (kepts-both (kepts-both c.strike_pairs.ensures.0 c.strike_mixed.ensures) c.stand_all.ensures) c.strike_loads.ensures)
