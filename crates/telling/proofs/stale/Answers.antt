use Rattle.std.proofs.Common.{false, rules}
use borrow.Author.Tests.{tests}
use Rattle.laws.proofs.Ranges.{any_over_range}
use Rattle.telling.specs.Told.{anew}
use Rattle.telling.proofs.stale.Goals as goal

pub returns : goal.returns
returns c = any_over_range c.args.v (anew false c.args.figures.now c.args.told.now) c.any.ensures.ran (cc) (λ x b q k. search (rules, tests))
