use mathlib.Core.Path.{◌≡◌, ap, ◌∙◌}
use mathlib.Core.Bool.{cond}
use Prim.Native.Nat.{ℕ}
use native.Mathlib.Omega.{arith}
use Rattle.bits.specs.Places.{has, join}
use Rattle.profile.proofs.ShutLaws.{cut_has}
use Rattle.profile.proofs.cut.Goals as goal

pub returns : goal.returns
returns c =
    let a = c.args in
    let late : c.if-holds.late ≡ cond (has a.shut.clean a.x) a.shut.late 0 = grind arith in
    let early : c.if-holds-2.early ≡ cond (has a.shut.soiled a.x) a.shut.early 0 = grind arith in
    λ q. ap (λ (r : ℕ). has r q) c.minus.ensures
    ∙ cut_has a.shut a.x a.word (omega arith) (omega arith) (c.join.ensures ∙ (λ i. join (late i) (early i))) q
