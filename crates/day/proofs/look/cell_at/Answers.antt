use Rattle.tables.specs.Cell.{cell}
use Rattle.tables.proofs.TableLaws.{row_low, entry-low}
use Rattle.day.proofs.Range.{told}
use Rattle.day.proofs.look.cell_at.Goals as goal

pub returns : goal.returns
unfolding cell
returns c = let p = c.requires in told c.word.ensures.is (entry-low _ _ _ _ (row_low _ _ _ _ p.0.low p.1) p.2)
