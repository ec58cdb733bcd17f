use Rattle.std.proofs.Common.{true, false, sym, arith}
use Rattle.rules.proofs.Refusals.{handed, handed_on, judged}
use Rattle.sheet.specs.Section.{table_refusal}
use Rattle.sheet.proofs.PlaceLaws.{head-zero}
use Rattle.sheet.proofs.table.Goals as goal

pub returns-in_err-p-clause-number : goal.returns-in_err-p-clause-number
unfolding table_refusal
returns-in_err-p-clause-number c = handed _ _ c.from_residual.ensures.1 (handed_on _ _ (rw c.square-m.ensures.0 at c.in_err-p.ensures.number))

pub entries_ok-requires : goal.entries_ok-requires
entries_ok-requires c = let h = head-zero _ _ _ _ _ (sym c.in_ok-p.ensures.number) in let p = c.in_ok-p.ensures.part in omega arith

pub returns-then-entries_ok-clause-number : goal.returns-then-entries_ok-clause-number
unfolding table_refusal
returns-then-entries_ok-clause-number c = let p = c.in_ok-p.ensures.part in judged 3 true (rw c.square-m.ensures.0 at c.in_ok-p.ensures.number) (rw (p.from, c.square-m.ensures.0) at c.entries_ok.ensures) c.if-entries_ok.true

pub returns-else-entries_ok-clause-number : goal.returns-else-entries_ok-clause-number
unfolding table_refusal
returns-else-entries_ok-clause-number c = let p = c.in_ok-p.ensures.part in judged 3 false (rw c.square-m.ensures.0 at c.in_ok-p.ensures.number) (rw (p.from, c.square-m.ensures.0) at c.entries_ok.ensures) c.if-entries_ok.false
