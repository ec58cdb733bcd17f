use Rattle.std.proofs.Common.{◌≡◌, ◌<◌, ◌∙◌, sym, ap, arith}
use Rattle.std.proofs.lemmas.List.{get_or-take, length-take}
use Rattle.std.specs.Int.Count.{ones}
use Rattle.laws.proofs.Sum.{sum-none, sum-next}
use Rattle.board.specs.Board.{places_of}
use Rattle.board.proofs.places.count.Goals as goal

pub loop-w-init : goal.loop-w-init
unfolding places_of
loop-w-init c = (omega arith, sym (sum-none _))

pub loop-w-preserved : goal.loop-w-preserved
unfolding places_of
loop-w-preserved c =
    let v = c.loop-w.invariant in
    let e = c.count-k.ensures in
    let node : c.loop-w.w-index < c.args.n = omega (arith, length-take c.args.n c.args.sets.now) in
    (omega (arith, e.1), sum-next _ _ v.1 (e.0 ∙ ap ones (get_or-take _ _ _ 0 node)))

pub returns : goal.returns
returns c =
    let v = c.loop-w.invariant in
    let all : c.loop-w.w-index ≡ c.args.n = omega (arith, length-take c.args.n c.args.sets.now) in
    (v.1 ∙ ap (places_of c.args.sets.now) all, omega arith)
