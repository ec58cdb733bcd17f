use borrow.Author.Rules.{rules}
use native.Mathlib.Omega.{arith}
use mathlib.Core.Path.{refl, ◌∙◌}
use Rattle.listing.proofs.TextLaws.{stops-none, stops-turn, stop-takes}
use Rattle.listing.proofs.put_stops.Goals as goal

pub loop-i-init : goal.loop-i-init
loop-i-init c = (search rules, search rules, refl, stops-none _ _)

pub loop-i-preserved : goal.loop-i-preserved
loop-i-preserved c =
    let p = stop-takes _ c.put_stop-next.ensures in
    (omega arith, omega arith, p.1 ∙ c.loop-i.invariant.2, stops-turn c.args.route.now _ (omega arith) c.loop-i.invariant.3 c.put_stop-next.ensures)
