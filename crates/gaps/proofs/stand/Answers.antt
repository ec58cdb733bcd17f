use mathlib.Core.Path.{◌≡◌}
use native.Mathlib.Omega.{arith}
use Rattle.along.proofs.ReadyLaws.{nodes-most}
use Rattle.gaps.proofs.GapLaws.{sift-all, sift-next, sift-done, least-place}
use Rattle.gaps.proofs.stand.Goals as goal

pub loop-p-init : goal.loop-p-init
loop-p-init c =
    let e : c.into_iter-p-iterator.result.left ≡ c.args.trial.places = cc in
    rw e (sift-all _ _ (omega arith))

pub offset_bounds-spots-p : goal.offset_bounds-spots-p
offset_bounds-spots-p c =
    let s = c.in-Some.ensures.steps in
    omega (arith, (least-place c.requires.1 c.loop-p.invariant s.0 s.1).node, nodes-most c.requires.0)

pub bounds-spots-p : goal.bounds-spots-p
bounds-spots-p c =
    let s = c.in-Some.ensures.steps in
    omega (arith, (least-place c.requires.1 c.loop-p.invariant s.0 s.1).node, nodes-most c.requires.0)

pub gap_at-gap-requires : goal.gap_at-gap-requires
gap_at-gap-requires c =
    let s = c.in-Some.ensures.steps in
    (least-place c.requires.1 c.loop-p.invariant s.0 s.1).few

pub tried-w-requires : goal.tried-w-requires
tried-w-requires c =
    let s = c.in-Some.ensures.steps in
    let r = c.requires in
    let q = least-place r.1 c.loop-p.invariant s.0 s.1 in
    rw c.gap_at-gap.ensures (r.0, r.1.node, record { from = q.node; to = q.next; leave = q.time; total = r.1.total })

pub loop-p-preserved : goal.loop-p-preserved
loop-p-preserved c = sift-next _ c.in-Some.ensures.steps.2 (rw c.gap_at-gap.ensures at c.tried-w.ensures) c.loop-p.invariant

pub returns : goal.returns
returns c = sift-done c.in-None.ensures.steps.0 c.loop-p.invariant
