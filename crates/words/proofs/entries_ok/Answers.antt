use borrow.Author.Tests.{le-leb}
use mathlib.Core.Path.{sym}
use native.Mathlib.Omega.{arith}
use Prim.Native.Nat.{◌+◌, ◌/◌}
use Rattle.laws.proofs.Below.{below-make}
use Rattle.laws.proofs.Or.{or-goes}
use Rattle.words.specs.Word.{word_at, entry_ok}
use Rattle.words.proofs.QuarterLaws.{quarters}
use Rattle.words.proofs.entries_ok.Goals as goal

pub loop-i-preserved : goal.loop-i-preserved
loop-i-preserved c = or-goes _ _ _ c.loop-i.invariant c.or_of_four-all.ensures

pub loop-i-2-init : goal.loop-i-2-init
loop-i-2-init c =
    let a = c.args in
    quarters (word_at a.s.now) a.from (a.m / 4) _ (λ k h. c.loop-i.invariant k (omega arith))

pub loop-i-2-preserved : goal.loop-i-2-preserved
loop-i-2-preserved c = or-goes _ _ _ c.loop-i-2.invariant c.word-all.ensures.is

pub returns-then-all-le1000000 : goal.returns-then-all-le1000000
returns-then-all-le1000000 c =
    let a = c.args in
    sym (below-make a.m (entry_ok a.s.now a.from)
    (λ k h. le-leb (word_at a.s.now (a.from + k)) 1000000 (omega (arith, c.loop-i-2.invariant k (omega arith)))))
