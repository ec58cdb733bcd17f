use native.Mathlib.Omega.{arith}
use mathlib.Core.Path.{ap₂, ◌∙◌}
use Rattle.rules.specs.Class.{admits}
use Rattle.rules.proofs.Inner.{is-inner}
use Rattle.board.proofs.FreshForm.{fresh-alike}
use Rattle.fleet.proofs.fresh_van.Goals as goal

pub returns : goal.returns
returns c =
    let p = c.requires in
    c.fresh.ensures ∙ fresh-alike _ _ _ (λ y e. ap₂ admits (p.2.at y (omega (arith, (is-inner _ y e).1))) c.bit-one.ensures)
