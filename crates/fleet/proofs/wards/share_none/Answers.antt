use native.Mathlib.Omega.{arith}
use mathlib.Core.Path.{sym}
use Rattle.fleet.specs.Rows.{fleet_with}
use Rattle.fleet.proofs.FormLaws.{apart-shares}
use Rattle.fleet.proofs.wards.share_none.Goals as goal

pub returns-then-v-eq1 : goal.returns-then-v-eq1
returns-then-v-eq1 c =
    let a = c.args in
    λ levels. sym (apart-shares a.n a.v (fleet_with a.routes.now a.sets.now levels a.figures.now)
    (λ i j y l h d. absurd (d (omega (arith, c.if-v-eq1.true, l, h)))))
