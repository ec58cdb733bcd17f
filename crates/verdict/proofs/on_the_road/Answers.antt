use native.Mathlib.Omega.{arith}
use Prim.Native.Nat.{◌+◌}
use mathlib.Core.Path.{◌≡◌}
use lib.ListN.{take}
use Rattle.day.specs.Tell.{day_of}
use Rattle.along.proofs.TimeLaws.{start-low, length-low}
use Rattle.along.proofs.RouteLaws.{node_at_lem, low}
use Rattle.along.proofs.Signed.{in-time-told}
use Rattle.verdict.proofs.Road.{rest-size, next-stop, first-late, rode-first, rode-late, rode-next, rode-all}
use Rattle.verdict.proofs.on_the_road.Goals as goal

pub returns-then-not-in_time : goal.returns-then-not-in_time
returns-then-not-in_time c =
    let a = c.args in
    let d = day_of a.s.now in
    first-late d a.route.now a.stops (omega arith) (omega arith) c.earliest-t.ensures.is
    (in-time-told d (low a.s.now) _ _ c.last_moment.ensures c.in_time.ensures) a.limit c.if-not-in_time.true

pub loop-x-init : goal.loop-x-init
loop-x-init c =
    let a = c.args in
    let d = day_of a.s.now in
    rode-first d a.route.now a.stops (omega arith) (omega arith) c.earliest-t.ensures.is
    (in-time-told d (low a.s.now) _ _ c.last_moment.ensures c.in_time.ensures) c.if-not-in_time.false

pub arrive-t-requires : goal.arrive-t-requires
arrive-t-requires c =
    let a = c.args in
    let p = c.requires in
    let l = c.loop-x in
    let n = next-stop a.route.now a.stops l.x-index c.loop-x-test.true in (
      p.0,
      omega (arith, l.invariant.at, node_at_lem p.1 l.x-index (omega arith)),
      rw n.1 (node_at_lem p.1 (l.x-index + 1) n.0),
      omega (arith, l.invariant.start, start-low (day_of a.s.now) (low a.s.now) (take a.stops a.route.now) l.x-index (omega arith)),
    )

pub last_moment-requires-in-loop-x : goal.last_moment-requires-in-loop-x
last_moment-requires-in-loop-x c =
    let a = c.args in
    let l = c.loop-x in
    let n = next-stop a.route.now a.stops l.x-index c.loop-x-test.true in (c.requires.0, rw n.1 (node_at_lem c.requires.1 (l.x-index + 1) n.0))

pub in_time-requires-in-loop-x : goal.in_time-requires-in-loop-x
in_time-requires-in-loop-x c =
    let a = c.args in
    let l = c.loop-x in
    let n = next-stop a.route.now a.stops l.x-index c.loop-x-test.true in
    let w = l.invariant.start in
    omega (arith, c.arrive-t.ensures.1, w, start-low (day_of a.s.now) (low a.s.now) (take a.stops a.route.now) l.x-index (omega arith))

pub returns-then-not-in_time-2 : goal.returns-then-not-in_time-2
returns-then-not-in_time-2 c =
    let a = c.args in
    let l = c.loop-x in
    let d = day_of a.s.now in
    let n = next-stop a.route.now a.stops l.x-index c.loop-x-test.true in
    rode-late d a.route.now a.stops (omega arith) l.invariant n.0 n.1 c.arrive-t.ensures.0
    (in-time-told d (low a.s.now) _ _ c.last_moment-in-loop-x.ensures c.in_time-in-loop-x.ensures) a.limit c.if-not-in_time-2.true

pub metres-total-requires : goal.metres-total-requires
metres-total-requires c =
    let a = c.args in
    let p = c.requires in
    let l = c.loop-x in
    let n = next-stop a.route.now a.stops l.x-index c.loop-x-test.true in
    (p.0, omega (arith, l.invariant.at, node_at_lem p.1 l.x-index (omega arith)), rw n.1 (node_at_lem p.1 (l.x-index + 1) n.0))

pub overflow_add-total : goal.overflow_add-total
overflow_add-total c =
    let a = c.args in
    let l = c.loop-x in
    let n = next-stop a.route.now a.stops l.x-index c.loop-x-test.true in
    omega (arith, l.invariant.metres, length-low (day_of a.s.now) (low a.s.now) a.route.now (l.x-index + 1) (omega arith), c.metres-total.ensures.low)

pub loop-x-preserved : goal.loop-x-preserved
loop-x-preserved c =
    let a = c.args in
    let l = c.loop-x in
    let d = day_of a.s.now in
    let n = next-stop a.route.now a.stops l.x-index c.loop-x-test.true in
    rode-next d a.route.now a.stops (omega arith) l.invariant n.0 n.1 c.arrive-t.ensures.0
    (in-time-told d (low a.s.now) _ _ c.last_moment-in-loop-x.ensures c.in_time-in-loop-x.ensures) c.if-not-in_time-2.false c.metres-total.ensures.is

pub returns : goal.returns
returns c =
    let a = c.args in
    let l = c.loop-x in
    let e : l.x-index + 1 ≡ a.stops = omega (arith, rest-size a.route.now a.stops (omega arith)) in
    rode-all (day_of a.s.now) a.route.now a.stops (omega arith) l.invariant e a.limit
