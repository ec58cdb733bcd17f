use native.Mathlib.Omega.{arith}
use mathlib.Core.Path.{◌≡◌}
use Rattle.along.proofs.NodeLaws.{named_none, named-low, named-next, named-all}
use Rattle.along.proofs.nodes.partners_of.Goals as goal

pub loop-x-init : goal.loop-x-init
loop-x-init c =
    let e : c.into_iter-x-iterator.result.left ≡ c.args.members = cc in
    rw e (named_none (omega arith))

pub overflow_add-x : goal.overflow_add-x
overflow_add-x c =
    let s = c.in-Some.ensures.steps in
    omega (arith, named-low s.0 c.loop-x.invariant s.1)

pub offset_bounds-t-x : goal.offset_bounds-t-x
offset_bounds-t-x c =
    let s = c.in-Some.ensures.steps in
    omega (arith, named-low s.0 c.loop-x.invariant s.1)

pub bounds-t-x : goal.bounds-t-x
bounds-t-x c =
    let s = c.in-Some.ensures.steps in
    omega (arith, named-low s.0 c.loop-x.invariant s.1)

pub put-word-requires : goal.put-word-requires
put-word-requires c =
    let s = c.in-Some.ensures.steps in
    c.requires.1 _ (named-low s.0 c.loop-x.invariant s.1)

pub loop-x-preserved : goal.loop-x-preserved
loop-x-preserved c =
    let s = c.in-Some.ensures.steps in
    named-next s.0 c.requires.1 c.loop-x.invariant s.1 s.2 c.put-word.ensures

pub returns : goal.returns
returns c = named-all (rw c.in-None.ensures.steps.0 at c.loop-x.invariant)
