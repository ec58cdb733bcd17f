use borrow.Author.Rules.{rules}
use native.Mathlib.Omega.{arith}
use mathlib.Core.Path.{sym, ◌∙◌}
use native.Mathlib.Nat.{suc-mul}
use Rattle.laws.proofs.Below.{below_none, flag-goes}
use Rattle.tables.proofs.TableLaws.{row_before}
use Rattle.tables.proofs.RuleLaws.{strip-is}
use Rattle.tables.proofs.Signed.{sign-more}
use Rattle.tables.proofs.strip_left.Goals as goal

pub loop-j-init : goal.loop-j-init
loop-j-init c = (search rules, search rules, below_none _)

pub loop-j-preserved : goal.loop-j-preserved
loop-j-preserved c =
    let l = c.loop-j in
    let r = strip-is c.args.square.now _ _ _ _ _ l.invariant.0 c.line_left-line.ensures in
    let e = suc-mul l.j c.args.wide in
    let x = row_before c.args.wide c.loop-j-test.true in
    (omega arith, omega arith, flag-goes _ _ l.invariant.2 r ∙ sym (sign-more l.left-bits c.line_left-line.result c.line_left-line.type_inv))
