use Rattle.acts.proofs.DoneLaws.{known-shares}
use mathlib.Core.Path.{refl, sym}
use Rattle.sheet.specs.Section.{vans_of}
use Rattle.day.specs.Tell.{day_of}
use Rattle.fleet.specs.Rows.{fleet_with}
use Rattle.acts.proofs.KnownLaws.{bar-free, free-turns, known-ready, known-turning, known-eight}
use Rattle.acts.proofs.ActLaws.{van-place}
use Rattle.acts.proofs.DoneLaws.{did_of, turned_as, room_as, barred-by, unbarred-by}
use Rattle.std.proofs.lemmas.Result.{err_from_is_err_and}
use Rattle.rules.proofs.Refusals.{refuses}
use Rattle.acts.proofs.place.Goals as goal

pub place_bar-requires : goal.place_bar-requires
place_bar-requires c =
    let p = c.requires in
    (known-ready p.0, p.0.rows.1, p.2)

pub returns-in_err-place_bar : goal.returns-in_err-place_bar
returns-in_err-place_bar c =
    let bar = c.in_err-place_bar.ensures c.args.levels.now c.args.trail.now (room_as c.args.trail.now c.requires.0.laid.vans) in
    let p = err_from_is_err_and c.from_residual.result c.from_residual.ensures.1 in
    rw (p.1, p.2)
    (did_of _ _ _ _ _ (refl, refl) (known-eight c.requires.0) (barred-by _ _ _ _ (van-place _ _ _ _ _ _ c.requires.2 c.requires.1) (sym bar) (refuses _)))

pub each-requires-clause-le_v : goal.each-requires-clause-le_v
each-requires-clause-le_v c = known-shares c.requires.0

pub each-requires-clause-by_index : goal.each-requires-clause-by_index
each-requires-clause-by_index c =
    let a = c.args in
    let fleet = fleet_with a.routes.now a.sets.now a.levels.now a.figures.now in
    let l = c.requires.0.laid in
    let bar = c.in_ok-place_bar.ensures a.levels.now a.trail.now (room_as a.trail.now l.vans) in
    let d = day_of a.sheet.now in
    let v = vans_of a.sheet.now in
    let u = bar-free d v fleet a.trail.now a.step.van a.step.first a.step.second (sym bar) in
    known-turning c.requires.0 a.step
    (λ j h z. free-turns d.n v fleet a.trail.now l.fine.n-high c.requires.0.form a.step c.requires.2 d refl u j h)

pub returns : goal.returns
returns c =
    let a = c.args in
    let fleet = fleet_with a.routes.now a.sets.now a.levels.now a.figures.now in
    let l = c.requires.0.laid in
    let bar = c.in_ok-place_bar.ensures a.levels.now a.trail.now (room_as a.trail.now l.vans) in
    did_of _ _ _ _ _ (refl, refl) c.each.ensures.2
    (unbarred-by _ _ _ _ (van-place _ _ _ _ _ _ c.requires.2 c.requires.1) (sym bar)
    (turned_as fleet a.trail.now a.step _ _ l.nodes l.vans (c.each.ensures.0, c.each.ensures.1)).0)
