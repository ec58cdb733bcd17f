use Rattle.std.proofs.Common.{ℕ, ◌≡◌, ◌<◌, ◌∙◌, sym, ap, arith}
use Rattle.std.proofs.lemmas.List.{get_or-take, length-take}
use Rattle.board.specs.Route.{word_of}
use Rattle.board.proofs.RouteLaws.{word_none, word_more}
use Rattle.board.proofs.route.word.Goals as goal

pub loop-p-init : goal.loop-p-init
loop-p-init c = sym (word_none _)

pub loop-p-preserved : goal.loop-p-preserved
loop-p-preserved c =
    let used : c.loop-p.p-index < c.args.k = omega (arith, length-take c.args.k c.args.route.now) in
    c.put-w.ensures ∙ rw (c.loop-p.invariant, get_or-take c.args.k c.args.route.now c.loop-p.p-index 0 used) (sym (word_more _ _))

pub returns : goal.returns
returns c =
    let all : c.loop-p.p-index ≡ c.args.k = omega (arith, length-take c.args.k c.args.route.now) in
    c.loop-p.invariant ∙ ap (λ (i : ℕ). word_of i c.args.route.now) all
