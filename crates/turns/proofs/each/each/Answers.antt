use mathlib.Core.Path.{◌≡◌, sym}
use native.Mathlib.Omega.{arith}
use Rattle.turns.proofs.TogetherLaws.{together-is}
use Rattle.turns.proofs.EachLaws.{taken_none, taken-fits, taken-asks, taken-goes, taken-all, accepted}
use Rattle.turns.proofs.each.each.Goals as goal

pub loop-j-init : goal.loop-j-init
loop-j-init c = taken_none _ _ _ _ _ _ _ _ c.requires.le_v.3

pub overflow_mul-from : goal.overflow_mul-from
overflow_mul-from c =
    let b = c.loop-j.invariant in
    omega (arith, taken-fits c.args.share b c.requires.le_v.2 c.loop-j-test.true, b.long, c.well_formed)

pub overflow_add-end : goal.overflow_add-end
overflow_add-end c =
    let b = c.loop-j.invariant in
    omega (arith, taken-fits c.args.share b c.requires.le_v.2 c.loop-j-test.true, b.long, c.well_formed)

pub offset_bounds-trail-from : goal.offset_bounds-trail-from
offset_bounds-trail-from c =
    let b = c.loop-j.invariant in
    omega (arith, taken-fits c.args.share b c.requires.le_v.2 c.loop-j-test.true, b.long, c.well_formed)

pub slice_bounds-turn-end : goal.slice_bounds-turn-end
slice_bounds-turn-end c = taken-fits c.args.share c.loop-j.invariant c.requires.le_v.2 c.loop-j-test.true

pub turn-o-requires : goal.turn-o-requires
turn-o-requires c =
    let p = c.requires.le_v in
    rw c.figures_in-f.ensures
    (taken-asks c.args.share c.loop-j.invariant p.2 c.loop-j-test.true p.1 (c.requires.by_index c.loop-j.j c.loop-j-test.true))

pub loop-j-preserved : goal.loop-j-preserved
loop-j-preserved c =
    let p = c.requires.le_v in
    rw (c.put_figures.ensures, c.after.ensures, c.figures_in-f.ensures, accepted c.turn-o.result c.is_ok-fits.ensures.value)
    (taken-goes c.args.share c.loop-j.invariant p.2 c.loop-j-test.true p.1 _ c.turn-o.result (rw c.figures_in-f.ensures at c.turn-o.ensures) c.trail-1.given.0)

pub returns : goal.returns
returns c =
    let b = c.loop-j.invariant in
    let e : c.loop-j.j ≡ c.args.v = omega arith in
    (together-is _ _ _ _ _ _ _ (taken-all _ _ _ _ _ _ b e c.requires.le_v.1), sym (rw e at b.flag), b.rows)
