use Rattle.std.proofs.Common.{sym, ◌∙◌, rules}
use borrow.Author.Tests.{tests}
use Rattle.laws.proofs.Ranges.{all_over_range}
use Rattle.bars.proofs.BarLaws.{row_roomy, roomy-rows}
use Rattle.bars.proofs.has_room.Goals as goal

pub returns : goal.returns
returns c = λ routes levels t h.
    let a = c.args in
    all_over_range a.v (row_roomy a.sets.now a.figures.now a.room a.van a.x) c.all.ensures.ran (cc) (λ x b q k. search (rules, tests))
    ∙ sym (roomy-rows a.v routes a.sets.now levels a.figures.now t a.room a.van a.x c.requires.0 h)
