use mathlib.Core.Path.{◌≡◌, refl, ap, ◌∙◌}
use Prim.Native.Nat.{ℕ, ◌+◌}
use native.Mathlib.Omega.{arith}
use lib.ListN.{get_or}
use Rattle.laws.proofs.Table.{filled_more}
use Rattle.day.specs.Tell.{day_of}
use Rattle.along.proofs.RouteLaws.{node_at_lem, low}
use Rattle.along.proofs.TimeLaws.{start-low, length-turn, length-low}
use Rattle.gaps.proofs.GapLaws.{left-told, reach-turn}
use Rattle.gaps.proofs.legs_of.Goals as goal

pub metres-d-requires : goal.metres-d-requires
metres-d-requires c =
    let q = c.requires.laid in
    (q.0, rw c.loop-i.invariant.0 (node_at_lem q.1 c.loop-i.i (omega arith)), node_at_lem q.1 (c.loop-i.i + 1) (omega arith))

pub service-requires : goal.service-requires
service-requires c =
    let q = c.requires.laid in
    (q.0, rw c.loop-i.invariant.0 (node_at_lem q.1 c.loop-i.i (omega arith)))

pub overflow_add-left : goal.overflow_add-left
overflow_add-left c =
    omega (arith, c.service.ensures.low, c.loop-i.invariant.1, start-low (day_of c.args.s.now) (low c.args.s.now) c.args.route.now c.loop-i.i (omega (arith, c.requires.laid.1.most)))

pub overflow_add-total : goal.overflow_add-total
overflow_add-total c =
    omega (arith, c.metres-d.ensures.low, c.loop-i.invariant.2, length-low (day_of c.args.s.now) (low c.args.s.now) c.args.route.now (c.loop-i.i + 1) (omega (arith, c.requires.laid.1.most)))

pub reach-t-requires : goal.reach-t-requires
reach-t-requires c = (
  c.requires.laid.0,
  rw c.loop-i.invariant.0 (node_at_lem c.requires.laid.1 c.loop-i.i (omega arith)),
  node_at_lem c.requires.laid.1 (c.loop-i.i + 1) (omega arith),
  omega (arith, c.service.ensures.low, c.loop-i.invariant.1, start-low (day_of c.args.s.now) (low c.args.s.now) c.args.route.now c.loop-i.i (omega (arith, c.requires.laid.1.most))),
)

pub loop-i-preserved : goal.loop-i-preserved
loop-i-preserved c =
    let d = day_of c.args.s.now in
    let r = c.args.route.now in
    let i = c.loop-i.i in
    let v = c.loop-i.invariant in
    let m = c.metres-d.ensures.is ∙ ap (λ (q : ℕ). d.metres q (get_or r (i + 1) 0)) v.0 in
    let e = left-told d r i v.0 v.1 c.service.ensures.is in (
      refl,
      reach-turn d r i v.0 e c.reach-t.ensures.0,
      ap (λ (k : ℕ). c.loop-i.total + k) m ∙ length-turn d r i (omega (arith, c.requires.laid.1.long, c.requires.laid.1.most)) v.2,
      filled_more _ v.3 (omega (arith, c.requires.laid.1.most)) e,
      filled_more _ v.4 (omega (arith, c.requires.laid.1.most)) (ap (λ (k : ℕ). c.args.limit + k) m),
    )

pub returns : goal.returns
returns c =
    let v = c.loop-i.invariant in
    let e : c.loop-i.i ≡ c.args.legs = omega arith in
    let t = rw e at v.2 in
    (record { lefts = rw e at v.3; mosts = rw e at v.4 }, t, omega (arith, t, length-low (day_of c.args.s.now) (low c.args.s.now) c.args.route.now (c.args.legs + 1) c.requires.laid.1.most))
