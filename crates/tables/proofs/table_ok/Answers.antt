use Rattle.std.proofs.Common.{rules, ◌∙◌, arith}
use Rattle.std.proofs.lemmas.Iterator.{serves_from_Range}
use borrow.Author.Tests.{tests}
use Rattle.laws.proofs.Ranges.{all_over_range}
use Rattle.tables.specs.Square.{wide_of, row_ok}
use Rattle.tables.proofs.SquareLaws.{wide-holds, row-holds}
use Rattle.tables.proofs.RuleLaws.{rows-rule}
use Rattle.tables.proofs.table_ok.Goals as goal

pub all-requires-clause-callable : goal.all-requires-clause-callable
all-requires-clause-callable c =
    let r = c.read_rows.ensures in
    serves_from_Range (λ x q h. search rules) (λ x a b. let e = row-holds r.0 (wide-holds _) (omega arith) b in search rules)

pub returns : goal.returns
returns c =
    all_over_range c.args.n (row_ok c.read_rows.new.square (wide_of c.args.n)) c.all.ensures.ran (cc) (λ x b q k. search (rules, tests))
    ∙ rows-rule c.read_rows.ensures.0 (wide-holds _)
