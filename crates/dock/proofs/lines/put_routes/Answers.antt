use native.Mathlib.Omega.{arith}
use mathlib.Core.Path.{◌≡◌, refl, subst, ◌∙◌}
use mathlib.Core.List.{List}
use Prim.Native.Nat.{ℕ}
use Rattle.listing.specs.Put.{Put}
use Rattle.listing.proofs.TextLaws.{route-takes}
use Rattle.dock.proofs.RouteLines.{rows_none, rows_next, rows-routes}
use Rattle.dock.proofs.lines.put_routes.Goals as goal

pub loop-j-init : goal.loop-j-init
loop-j-init c = (omega arith, refl, rows_none _ _ _)

pub loop-j-preserved : goal.loop-j-preserved
loop-j-preserved c =
    let v = c.loop-j.invariant in
    let w = rw c.figures_in-f.ensures at c.put_route-next.ensures in
    let k = route-takes _ _ (c.requires.4 c.loop-j.j c.loop-j-test.true) w in
    (omega (arith, k.0, v.0), k.1 ∙ v.1, rows_next _ _ v.2 w)

pub returns : goal.returns
returns c =
    let a = c.args in
    let v = c.loop-j.invariant in
    let e : c.loop-j.j ≡ a.v = omega arith in (
      omega (arith, v.0, e),
      λ sets levels. subst (λ (t : List ℕ). Put a.out.now a.used t c.loop-j.next c.loop-j.out) (rows-routes a.routes.now sets levels a.figures.now a.v c.requires.0) (rw e at v.2),
    )
