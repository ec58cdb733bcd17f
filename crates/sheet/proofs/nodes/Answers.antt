use Rattle.std.proofs.Common.{true, false, sym, arith}
use Rattle.rules.proofs.Refusals.{handed, handed_on, judged}
use Rattle.sheet.specs.Section.{nodes_refusal}
use Rattle.sheet.proofs.PlaceLaws.{head-zero}
use Rattle.sheet.proofs.nodes.Goals as goal

pub returns-in_err-p-clause-number : goal.returns-in_err-p-clause-number
unfolding nodes_refusal
returns-in_err-p-clause-number c = handed _ _ c.from_residual.ensures.1 (handed_on _ _ (rw c.requires.0 at c.in_err-p.ensures.number))

pub nodes_ok-requires : goal.nodes_ok-requires
nodes_ok-requires c = let h = head-zero _ _ _ _ _ (sym c.in_ok-p.ensures.number) in let p = c.in_ok-p.ensures.part in omega arith

pub returns-then-nodes_ok-clause-number : goal.returns-then-nodes_ok-clause-number
unfolding nodes_refusal
returns-then-nodes_ok-clause-number c = let p = c.in_ok-p.ensures.part in judged 3 true (rw c.requires.0 at c.in_ok-p.ensures.number) (rw (p.count, p.from, c.requires.0) at c.nodes_ok.ensures) c.if-nodes_ok.true

pub returns-else-nodes_ok-clause-number : goal.returns-else-nodes_ok-clause-number
unfolding nodes_refusal
returns-else-nodes_ok-clause-number c = let p = c.in_ok-p.ensures.part in judged 3 false (rw c.requires.0 at c.in_ok-p.ensures.number) (rw (p.count, p.from, c.requires.0) at c.nodes_ok.ensures) c.if-nodes_ok.false
