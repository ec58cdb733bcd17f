use mathlib.Core.Path.{◌∙◌, ap}
use Prim.Native.Nat.{ℕ}
use Rattle.bits.specs.Places.{has}
use Rattle.verdict.proofs.Pairing.{put_first, put_second}
use Rattle.verdict.proofs.with_partner.Goals as goal

pub returns-then-from-x : goal.returns-then-from-x
returns-then-from-x c = λ y.
    let a = c.args in
    rw c.in-Transfer.is (ap (λ (w : ℕ). has w y) c.put.ensures ∙ put_first a.word a.x c.in-Transfer.from c.in-Transfer.to y
    (rw c.in-Transfer.is at c.requires).1 c.if-from-x.true)

pub returns-then-to-x : goal.returns-then-to-x
returns-then-to-x c = λ y.
    let a = c.args in
    rw c.in-Transfer.is (ap (λ (w : ℕ). has w y) c.put-then-to-x.ensures ∙ put_second a.word a.x c.in-Transfer.from c.in-Transfer.to y
    (rw c.in-Transfer.is at c.requires).0 c.if-from-x.false c.if-to-x.true)
