use native.Mathlib.Omega.{arith}
use mathlib.Core.Path.{◌≡◌, sym, subst, ◌∙◌}
use Rattle.fleet.specs.Fleet.{HeldAll}
use Rattle.fleet.specs.Rows.{fleet_with}
use Rattle.planner.specs.Face.{fresh_of}
use Rattle.planner.proofs.FreshFleet.{fresh-in-form}
use Rattle.dock.proofs.Reach.{rows-held}
use Rattle.dock.proofs.FreshRows.{freshly-none, freshly-all}
use Rattle.dock.proofs.lines.fresh_rows.Goals as goal

pub loop-j-init : goal.loop-j-init
loop-j-init c =
    let p = c.requires in
    (omega (arith, p.1.vans, p.1.fine.vans-high), freshly-none _ _ p.2 p.3 p.4 p.5)

pub returns : goal.returns
returns c =
    let l = c.loop-j in
    let p = c.requires.1 in
    let e : l.j ≡ c.args.at.vans = omega arith in
    let all : fleet_with l.routes l.sets l.levels l.figures ≡ fresh_of c.args.sheet.now = freshly-all (rw (e ∙ p.vans, p.nodes) at l.invariant.1) in
    record { figures_after = all; rows = rows-held _ _ _ _ (subst HeldAll (sym all) (fresh-in-form _ c.requires.0).1) l.invariant.1.rows }
