use Rattle.acts.proofs.DoneLaws.{known-spot}
use mathlib.Core.Path.{◌∙◌}
use Prim.Native.Nat.{◌<◌}
use native.Mathlib.Omega.{arith}
use Rattle.rules.specs.Numbers.{most_vans}
use Rattle.sheet.specs.Section.{vans_of}
use Rattle.day.specs.Tell.{van_of, day_of}
use Rattle.van.specs.Act.{act_of}
use Rattle.van.proofs.Leaves.{act-leaves}
use Rattle.turns.proofs.PutLaws.{rows_stay, alone-did}
use Rattle.acts.proofs.KnownLaws.{known-eight}
use Rattle.acts.proofs.ActLaws.{van-alone, did-in-van}
use Rattle.acts.proofs.DoneLaws.{known-van}
use Rattle.acts.proofs.alone.Goals as goal

pub change-o-requires : goal.change-o-requires
change-o-requires c =
    let i = c.args.step.van in
    (rw c.figures_in-f.ensures (known-van c.requires.0 i _ _ c.requires.3 (known-spot c.requires.0 i)), c.requires.2)

pub returns : goal.returns
returns c =
    let a = c.args in
    let i = a.step.van in
    let p = c.requires.0 in
    let few = p.laid.fine.vans-high in
    let low : i < most_vans = omega (arith, c.requires.3, few) in
    rw (c.put_figures.ensures, c.after.ensures, c.figures_in-f.ensures)
    (did-in-van c.change-o.result c.rounds.ensures (rows_stay a.routes.now a.sets.now a.levels.now a.figures.now (known-eight p) i low _ _ _ _)
    (van-alone _ _ _ _ _ _ c.requires.3 c.requires.1
    ∙ alone-did (vans_of a.sheet.now) i _ _ a.routes.now a.sets.now a.levels.now a.figures.now a.trail.now
    (λ s u. act_of (van_of a.sheet.now i) (day_of a.sheet.now) s u a.step.kind a.step.first a.step.second) _ c.change-o.result
    c.requires.3 few (known-spot p i) (known-eight p)
    (λ s u. act-leaves (van_of a.sheet.now i) (day_of a.sheet.now) s u a.step.kind a.step.first a.step.second)
    (rw c.figures_in-f.ensures at (c.change-o.ensures (van_of a.sheet.now i)))
    c.trail-1.given.0))
