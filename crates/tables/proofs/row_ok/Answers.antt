use borrow.Author.Rules.{rules}
use native.Mathlib.Omega.{arith}
use mathlib.Core.Path.{sym, ◌∙◌}
use Rattle.tables.proofs.RuleLaws.{strips-none, strips-more, strips-done}
use Rattle.tables.proofs.Signed.{sign-more}
use Rattle.tables.proofs.row_ok.Goals as goal

pub loop-k-init : goal.loop-k-init
loop-k-init c = (search rules, strips-none _ _ _)

pub loop-k-preserved : goal.loop-k-preserved
loop-k-preserved c =
    let l = c.loop-k in
    let s = c.strip_left-strip in
    (omega arith, strips-more _ _ _ _ 32 l.invariant.1 s.ensures ∙ sym (sign-more l.left-bits s.result s.type_inv))

pub returns : goal.returns
returns c =
    let l = c.loop-k in
    let s = c.strip_left-rest in
    sign-more l.left-bits s.result s.type_inv ∙ strips-done _ _ _ _ l.invariant.0 l.invariant.1 s.ensures
