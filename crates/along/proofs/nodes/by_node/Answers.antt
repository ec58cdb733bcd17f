use mathlib.Core.Path.{◌≡◌, ap}
use Prim.Native.Nat.{◌≤◌}
use native.Mathlib.Omega.{arith}
use Rattle.day.proofs.Fit.{placed-read}
use Rattle.rules.specs.Load.{load_of}
use Rattle.along.proofs.RouteLaws.{job-load}
use Rattle.along.proofs.ReadyLaws.{jobs-are}
use Rattle.along.proofs.NodeLaws.{nodes-none, nodes-next}
use Rattle.along.proofs.nodes.by_node.Goals as goal

pub loop-j-init : goal.loop-j-init
loop-j-init c = rw c.requires.1 (nodes-none _)

pub enter-requires : goal.enter-requires
enter-requires c =
    let l = c.loop-j in
    let q = c.job-job in (
      placed-read c.requires.0 l.j (omega arith) q.ensures,
      omega (arith, ap load_of q.ensures, (job-load c.requires.0 l.j (omega arith)).1),
      l.invariant.long,
      λ i. omega (arith, l.invariant.low i, jobs-are c.requires.0, c.requires.0.fine.m-high),
    )

pub overflow_cast-load : goal.overflow_cast-load
overflow_cast-load c = omega (arith, c.load.ensures, ap load_of c.job-job.ensures, (job-load c.requires.0 c.loop-j.j (omega arith)).1)

pub loop-j-preserved : goal.loop-j-preserved
loop-j-preserved c =
    let q = c.job-job in
    let l = c.loop-j in
    let light : load_of q.result ≤ 1000 = omega (arith, ap load_of q.ensures, (job-load c.requires.0 l.j (omega arith)).1) in
    nodes-next q.ensures (placed-read c.requires.0 l.j (omega arith) q.ensures) light (omega arith) c.enter.ensures l.invariant

pub returns : goal.returns
returns c =
    let l = c.loop-j in
    let e : l.j ≡ c.args.at.jobs = omega arith in rw e at l.invariant
