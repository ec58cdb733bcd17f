use native.Mathlib.Omega.{arith}
use mathlib.Core.Path.{sym, ap, ◌∙◌}
use mathlib.Core.Bool.{Bool, ◌&&◌}
use Prim.Native.Nat.{ℕ}
use borrow.Author.Tests.{not-true, not-false}
use Rattle.laws.specs.Basic.{all_below}
use Rattle.bits.specs.Places.{join, minus}
use Rattle.verdict.specs.Verdict.{member_open}
use Rattle.verdict.proofs.Standing.{stands-told, kept-not}
use Rattle.verdict.proofs.stand.Goals as goal

pub returns-then-not-course : goal.returns-then-not-course
returns-then-not-course c = λ v s at l n r b k. kept-not r b k (not-true _ c.if-not-course.true)

pub returns : goal.returns
returns c = λ v s at l n r b k.
    let a = c.args in
    let w = c.minus-left.ensures ∙ ap (λ (w : ℕ). minus w a.course.on) (c.join-owing.ensures ∙ ap (join a.marks) c.join.ensures) in
    ap (λ (b : Bool). b && c.all_open.result) (sym (not-false a.course.keeps c.if-not-course.false))
    ∙ stands-told r b k (omega arith) (omega arith) c.partners_of-paired.ensures
    (c.all_open.ensures ∙ ap (λ (w : ℕ). all_below 64 (member_open a.sets.now w)) w)
