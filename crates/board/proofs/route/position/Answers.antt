use Rattle.std.proofs.Common.{◌≡◌, ◌∙◌, eqb, length, take, rules, tests, arith}
use Rattle.std.proofs.lemmas.List.{length-take}
use Rattle.std.proofs.lemmas.Iterator.{YieldsList-from_slice}
use Rattle.std.proofs.lemmas.Iterator.Search.{position_from_yields_List}
use Rattle.board.proofs.RouteLaws.{index-found}
use Rattle.board.proofs.route.position.Goals as goal

pub returns : goal.returns
returns c =
    let a = c.args in
    let route = take a.stops a.route.now in
    let long : a.stops ≡ length route = omega (arith, length-take a.stops a.route.now) in
    let found =
    position_from_yields_List (λ x. eqb x a.p) _ _ _ c.position.ensures.ran (YieldsList-from_slice route cc) (λ x b q k. search (rules, tests)) in
    c.unwrap_or.ensures ∙ rw found (index-found a.p a.stops route long)
