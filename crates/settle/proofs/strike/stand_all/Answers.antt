use mathlib.Core.Path.{ap, ◌∙◌}
use Prim.Native.Nat.{ℕ}
use native.Mathlib.Omega.{arith}
use lib.ListN.{take}
use Rattle.rules.specs.Time.{driven}
use Rattle.day.specs.Tell.{day_of}
use Rattle.along.proofs.RouteLaws.{stops-legs, low}
use Rattle.along.proofs.ReadyLaws.{nodes-most}
use Rattle.along.proofs.Facts.{route-of, past-nodes}
use Rattle.gaps.proofs.GapLaws.{gap-stands, places-at, stand-kept}
use Rattle.settle.proofs.RoundLaws.{kepts-same, upto-more, upto_all}
use Rattle.settle.proofs.Facts.{spotted, named}
use Rattle.settle.proofs.strike.stand_all.Goals as goal

pub stand-requires : goal.stand-requires
stand-requires c =
    let v = c.loop-x in
    let a = c.args in
    let r = c.requires.ready.0 in
    let e = c.legs_of-total.ensures in
    let w = rw (← v.invariant.rest v.x (omega arith)) at (named r c.requires.ready.1 v.x) in (
      r.laid,
      places-at (day_of a.s.now) a.route.now e.0 w {k = a.at.nodes} (low a.s.now) (rw (stops-legs (route-of r)) (route-of r))
          c.loop-x-test.true e.2,
    )

pub loop-x-preserved : goal.loop-x-preserved
loop-x-preserved c =
    let v = c.loop-x in
    let a = c.args in
    let r = c.requires.ready.0 in
    let o = v.invariant.rest v.x (omega arith) in
    let w = rw (← o) at (named r c.requires.ready.1 v.x) in
    let k = stand-kept (day_of a.s.now) a.route.now c.legs_of-total.ensures.0 w a.l.now _ _ (spotted r c.requires.ready.1) c.stand.ensures in
    upto-more (omega (arith, nodes-most r.laid)) v.invariant (rw o at k)

pub returns : goal.returns
returns c =
    let a = c.args in
    let r = c.requires.ready.0 in
    let d = day_of a.s.now in
    let e = c.legs_of-total.ensures in
    let g = e.1 ∙ ap (λ (k : ℕ). driven d (take k a.route.now)) (stops-legs (route-of r)) in
    rw (← g) (kepts-same (λ y i n. gap-stands d a.route.now e.0 a.l.now _ y i n) (upto_all (λ y h. past-nodes r y (omega arith)) c.loop-x.invariant))
