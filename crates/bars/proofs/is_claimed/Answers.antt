use Rattle.std.proofs.Common.{sym, ◌∙◌, rules}
use borrow.Author.Tests.{tests}
use Rattle.day.specs.Tell.{day_of}
use Rattle.laws.proofs.Ranges.{any_over_range}
use Rattle.bars.proofs.BarLaws.{claimed-alone, row_owes, claimed-rows}
use Rattle.bars.proofs.is_claimed.Goals as goal

pub returns-then-v-eq1 : goal.returns-then-v-eq1
returns-then-v-eq1 c = λ levels. sym (claimed-alone _ _ _ _ _ (sym c.requires.0.laid.vans ∙ c.if-v-eq1.true) c.requires.1)

pub returns : goal.returns
returns c = λ levels.
    let a = c.args in
    let d = c.requires.0.laid in
    let asked = row_owes (day_of a.sheet.now) a.routes.now a.figures.now a.van a.x in
    rw d.vans at (any_over_range a.at.vans asked c.any.ensures.ran (cc) (λ x b q k. search (rules, tests, c.partners-partners.ensures)))
    ∙ sym (claimed-rows (day_of a.sheet.now) _ a.routes.now a.sets.now levels a.figures.now a.van a.x d.fine.vans-high)
