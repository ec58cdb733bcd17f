use Rattle.std.proofs.Common.{rules}
use borrow.Author.Tests.{tests}
use Rattle.laws.proofs.Ranges.{all_over_range}
use Rattle.words.specs.Word.{limits_at_ok}
use Rattle.words.proofs.all_limits_ok.Goals as goal

pub returns : goal.returns
returns c = all_over_range c.args.v (limits_at_ok c.args.s.now c.args.from) c.all.ensures.ran (cc) (λ x b q k. search (rules, tests))
