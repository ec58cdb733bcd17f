use native.Mathlib.Omega.{arith}
use mathlib.Core.Path.{◌∙◌}
use Prim.Native.Nat.{◌+◌, ◌-◌}
use lib.ListN.{get_or}
use Rattle.day.specs.Tell.{day_of}
use Rattle.along.proofs.Signed.{last-low, last-kept, moment-kept}
use Rattle.along.proofs.TimeLaws.{from_last, from-down, from_all, last-first, last-told}
use Rattle.along.proofs.RouteLaws.{node_at_lem, low}
use Rattle.along.proofs.times.lasts.Goals as goal

pub last_moment-t-requires : goal.last_moment-t-requires
last_moment-t-requires c = (c.requires.0, node_at_lem c.requires.1 (c.args.stops - 1) (omega arith))

pub loop-i-init : goal.loop-i-init
loop-i-init c =
    let a = c.args in
    let d = day_of a.s.now in
    let e = last-kept d (low a.s.now) a.route.now a.stops (a.stops - 1) (omega arith)
    (c.last_moment-t.ensures ∙ last-first d a.route.now a.stops (omega arith) (omega arith)) in
    (e, from_last _ _ a.stops a.l.now _ c.requires.2 (omega arith) (omega arith) e)

pub service-requires : goal.service-requires
service-requires c = (c.requires.0, node_at_lem c.requires.1 (c.loop-i.i - 1) (omega arith))

pub seconds-requires : goal.seconds-requires
seconds-requires c =
    let p = c.requires in
    let i = c.loop-i.i - 1 in
    (p.0, node_at_lem p.1 i (omega arith), node_at_lem p.1 (i + 1) (omega arith))

pub last_moment-requires : goal.last_moment-requires
last_moment-requires c = (c.requires.0, node_at_lem c.requires.1 (c.loop-i.i - 1) (omega arith))

pub before-t-requires : goal.before-t-requires
before-t-requires c =
    let a = c.args in
    (omega arith, rw c.loop-i.invariant.0 (last-low (day_of a.s.now) (low a.s.now) a.route.now a.stops c.loop-i.i (omega arith)))

pub loop-i-preserved : goal.loop-i-preserved
loop-i-preserved c =
    let v = c.loop-i.invariant in
    let a = c.args in
    let d = day_of a.s.now in
    let i = c.loop-i.i - 1 in
    let e = last-told d a.route.now a.stops i (omega arith) (omega arith) (omega arith) v.0 c.before-t.ensures
    (moment-kept d (low a.s.now) (get_or a.route.now i 0) c.last_moment.ensures) c.service.ensures.is c.seconds.ensures.is in
    let f = last-kept d (low a.s.now) a.route.now a.stops i (omega arith) e in
    (f, from-down i (omega arith) (omega arith) f v.1)

pub returns : goal.returns
returns c = from_all (omega arith) c.loop-i.invariant.1
