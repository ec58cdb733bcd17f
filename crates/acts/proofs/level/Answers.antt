use mathlib.Core.Path.{refl}
use Rattle.acts.proofs.DoneLaws.{known-shares}
use native.Mathlib.Omega.{arith}
use Rattle.fleet.specs.Rows.{fleet_with}
use Rattle.acts.proofs.KnownLaws.{known-turning, known-eight}
use Rattle.acts.proofs.ActLaws.{act-level, level-open, level-full}
use Rattle.acts.proofs.DoneLaws.{did_of, turned_as, depth-row, barred-by, unbarred-by}
use Rattle.acts.proofs.level.Goals as goal

pub returns-then-one-ge-LEVELS : goal.returns-then-one-ge-LEVELS
returns-then-one-ge-LEVELS c =
    let a = c.args in
    let full = rw c.figures_in-one.ensures at c.if-one-ge-LEVELS.true in
    did_of _ _ _ _ _ (refl, refl) (known-eight c.requires.0)
    (barred-by _ _ _ _ (act-level _ _ _ _ _ _ c.requires.1)
    (level-full _ (omega (arith, full, depth-row a.routes.now a.sets.now a.levels.now a.figures.now)))
    (λ z. omega (arith, z)))

pub each-requires-clause-le_v : goal.each-requires-clause-le_v
each-requires-clause-le_v c = known-shares c.requires.0

pub each-requires-clause-by_index : goal.each-requires-clause-by_index
each-requires-clause-by_index c = known-turning c.requires.0 c.args.step (λ j h z. absurd (omega (arith, z, c.requires.1)))

pub returns : goal.returns
returns c =
    let a = c.args in
    let room = rw c.figures_in-one.ensures at c.if-one-ge-LEVELS.false in
    let fleet = fleet_with a.routes.now a.sets.now a.levels.now a.figures.now in
    let l = c.requires.0.laid in
    did_of _ _ _ _ _ (refl, refl) c.each.ensures.2
    (unbarred-by _ _ _ _ (act-level _ _ _ _ _ _ c.requires.1)
    (level-open _ (omega (arith, room, depth-row a.routes.now a.sets.now a.levels.now a.figures.now)))
    (turned_as fleet a.trail.now a.step _ _ l.nodes l.vans (c.each.ensures.0, c.each.ensures.1)).0)
