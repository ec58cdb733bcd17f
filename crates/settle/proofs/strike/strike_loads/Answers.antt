use native.Mathlib.Omega.{arith}
use mathlib.Core.Path.{refl, sym, ◌∙◌}
use Rattle.day.specs.Tell.{job_in}
use borrow.Author.Tests.{leb-true}
use Rattle.along.proofs.RouteLaws.{job-low}
use Rattle.laws.proofs.Peak.{peak-low}
use Rattle.settle.proofs.RoundLaws.{kepts-one, jobs-none, jobs-more}
use Rattle.settle.proofs.Facts.{job-asked, node-word}
use Rattle.settle.proofs.Strikes.{loads-spared}
use Rattle.settle.proofs.strike.strike_loads.Goals as goal

pub has_room-requires : goal.has_room-requires
has_room-requires c = (c.requires.laid.3.high, rw c.requires.heaviest_value (peak-low _ _ 4294967296 (omega arith) (λ k b. job-low c.args.s.now k)))

pub returns-then-has_room : goal.returns-then-has_room
returns-then-has_room c =
    let q = c.requires.laid in
    loads-spared c.args.pass q.2 (job_in c.args.s.now) c.args.at.jobs (λ k b. (job-asked q.0 c.args.pass q.3 k b refl).2) c.requires.heaviest_value
    (leb-true _ _ (sym c.has_room.ensures ∙ c.if-has_room.true))

pub loop-j-init : goal.loop-j-init
loop-j-init c = jobs-none _ _ c.requires.laid.2

pub offset_bounds-new-x : goal.offset_bounds-new-x
offset_bounds-new-x c = omega (arith, node-word c.requires.laid.0 _ c.loop-j-test.true c.job-job.ensures c.node_of-x.ensures)

pub bounds-new-x : goal.bounds-new-x
bounds-new-x c = omega (arith, node-word c.requires.laid.0 _ c.loop-j-test.true c.job-job.ensures c.node_of-x.ensures, c.loop-j.invariant.long)

pub left_of-requires : goal.left_of-requires
left_of-requires c =
    (c.requires.laid.1, (job-asked c.requires.laid.0 c.args.pass c.requires.laid.3 _ c.loop-j-test.true c.job-job.ensures).2)

pub offset_bounds-new-x-in-loop-j : goal.offset_bounds-new-x-in-loop-j
offset_bounds-new-x-in-loop-j c =
    omega (arith, node-word c.requires.laid.0 _ c.loop-j-test.true c.job-job.ensures c.node_of-x.ensures)

pub bounds-new-x-in-loop-j : goal.bounds-new-x-in-loop-j
bounds-new-x-in-loop-j c =
    omega (arith, node-word c.requires.laid.0 _ c.loop-j-test.true c.job-job.ensures c.node_of-x.ensures, c.loop-j.invariant.long)

pub loop-j-preserved : goal.loop-j-preserved
loop-j-preserved c =
    let v = c.loop-j.invariant in
    let n = node-word c.requires.laid.0 _ c.loop-j-test.true c.job-job.ensures c.node_of-x.ensures in
    jobs-more _ _ _ c.job-job.ensures v (rw (← c.node_of-x.ensures) (kepts-one _ v.long n c.left_of.ensures))
