use mathlib.Core.Path.{sym, ◌∙◌}
use Prim.Native.Nat.{◌<◌}
use native.Mathlib.Omega.{arith}
use Rattle.along.proofs.ReadyLaws.{nodes-most}
use Rattle.along.proofs.Facts.{two-stops, near-nodes, past-nodes}
use Rattle.settle.proofs.RoundLaws.{upto-more, upto_all}
use Rattle.settle.proofs.Mixed.{mixed-kept}
use Rattle.settle.proofs.strike.strike_mixed.Goals as goal

pub shut_legs-shut-requires : goal.shut_legs-shut-requires
shut_legs-shut-requires c =
    let r = c.requires in
    let t = two-stops r in (r.long, omega (arith, t, r.most), λ i h. near-nodes r i (omega (arith, t)))

pub loop-x-preserved : goal.loop-x-preserved
loop-x-preserved c =
    let v = c.loop-x in
    let r = c.requires in
    let node : v.x < 64 = omega (arith, nodes-most r.laid) in
    let k = mixed-kept r c.look_over-jobs.ensures c.shut_legs-shut.ensures v.x node (sym c.profile.ensures ∙ c.if-not-profile.false) c.cut.ensures in
    upto-more node v.invariant (rw (v.invariant.rest v.x (omega arith)) at k)

pub returns : goal.returns
returns c = upto_all (λ y h. past-nodes c.requires y (omega arith)) c.loop-x.invariant
