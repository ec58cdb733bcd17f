use Rattle.std.proofs.Common.{rules}
use borrow.Author.Tests.{tests}
use Rattle.laws.proofs.Ranges.{all_over_range}
use Rattle.words.specs.Word.{node_at_ok}
use Rattle.words.proofs.nodes_ok.Goals as goal

pub returns : goal.returns
returns c = all_over_range c.args.n (node_at_ok c.args.s.now c.args.from) c.all.ensures.ran (cc) (λ x b q k. search (rules, tests))
