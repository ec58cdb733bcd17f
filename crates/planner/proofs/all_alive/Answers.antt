use Rattle.std.proofs.Common.{rules, ap, ◌∙◌}
use Prim.Native.Nat.{ℕ}
use borrow.Author.Tests.{tests}
use Rattle.laws.specs.Basic.{all_below}
use Rattle.laws.proofs.Ranges.{all_over_range}
use Rattle.fleet.specs.Rows.{fleet_with}
use Rattle.planner.specs.Asked.{lives}
use Rattle.planner.proofs.all_alive.Goals as goal

pub returns : goal.returns
returns c = λ levels.
    let a = c.args in
    let alive = lives a.sheet.now (fleet_with a.routes.now a.sets.now levels a.figures.now) in
    all_over_range a.at.vans alive c.all.ensures.ran (cc) (λ x b q k. search (rules, tests)) ∙ ap (λ (v : ℕ). all_below v alive) c.requires.0.laid.vans
