use mathlib.Core.Path.{refl}
use native.Mathlib.Omega.{arith}
use Rattle.along.proofs.Facts.{near-nodes, two-stops, routed}
use Rattle.settle.proofs.settling.settle.Goals as goal

pub spots-requires-clause-route_len : goal.spots-requires-clause-route_len
spots-requires-clause-route_len c = let r = c.requires.ready.0 in (r.long, r.most, near-nodes r)

pub befores-requires : goal.befores-requires
befores-requires c =
    let r = c.requires.ready.0 in
    let t = two-stops r in (r.long, omega (arith, t, r.most), λ i h. near-nodes r i (omega (arith, t)), refl)

pub loads-peaks-requires : goal.loads-peaks-requires
loads-peaks-requires c =
    let p = c.requires in (routed p.ready.0 p.by_node, c.spots.ensures, refl)
