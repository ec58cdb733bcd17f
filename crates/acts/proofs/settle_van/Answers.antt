use Rattle.acts.proofs.DoneLaws.{known-spot}
use mathlib.Core.Path.{sym, ap, ◌∙◌}
use Prim.Native.Nat.{◌+◌, ◌*◌, ◌/◌, ◌-◌, ◌<◌}
use native.Mathlib.Omega.{arith}
use lib.ListN.{length, take, drop}
use Rattle.rules.specs.Numbers.{most_vans}
use Rattle.rules.specs.declared.Van.{Van}
use Rattle.sheet.specs.Section.{vans_of}
use Rattle.day.specs.Tell.{van_of, day_of}
use Rattle.van.specs.Act.{act_of}
use Rattle.van.proofs.Leaves.{act-leaves}
use Rattle.fleet.specs.Rows.{row_state}
use Rattle.turns.proofs.PutLaws.{rows_stay, alone-did}
use Rattle.acts.proofs.KnownLaws.{known-eight}
use Rattle.acts.proofs.ActLaws.{van-alone, did-in-van}
use Rattle.acts.proofs.DoneLaws.{known-van}
use Rattle.acts.proofs.settle_van.Goals as goal

pub settle-o-requires-clause-known : goal.settle-o-requires-clause-known
settle-o-requires-clause-known c =
    let i = c.args.step.van in
    let p = c.requires.known_rows in
    (rw c.figures_in-f.ensures (known-van p.0 i _ _ p.2 (known-spot p.0 i)), c.van-van.ensures.2)

pub returns : goal.returns
returns c =
    let a = c.args in
    let i = a.step.van in
    let share = length a.trail.now / a.at.vans in
    let from = i * share in
    let p = c.requires.known_rows.0 in
    let few = p.laid.fine.vans-high in
    let low : i < most_vans = omega (arith, c.requires.known_rows.2, few) in
    rw (c.put_figures.ensures, c.after.ensures, c.figures_in-f.ensures)
    (did-in-van c.settle-o.result c.rounds.ensures (rows_stay a.routes.now a.sets.now a.levels.now a.figures.now (known-eight p) i low _ _ _ _)
    (van-alone _ _ _ _ _ _ c.requires.known_rows.2 (λ z. omega (arith, c.requires.known_rows.1, z))
    ∙ alone-did (vans_of a.sheet.now) i _ _ a.routes.now a.sets.now a.levels.now a.figures.now a.trail.now
    (λ s u. act_of (van_of a.sheet.now i) (day_of a.sheet.now) s u a.step.kind a.step.first a.step.second) _ c.settle-o.result
    c.requires.known_rows.2 few (known-spot p i) (known-eight p)
    (λ s u. act-leaves (van_of a.sheet.now i) (day_of a.sheet.now) s u a.step.kind a.step.first a.step.second)
    (sym (ap (λ (w : Van). act_of w (day_of a.sheet.now) (row_state a.routes.now a.sets.now a.levels.now a.figures.now i)
    (take (from + share - from) (drop from a.trail.now)) a.step.kind a.step.first a.step.second) c.van-van.ensures.0)
    ∙ rw c.figures_in-f.ensures at c.settle-o.ensures)
    c.trail-1.given.0))
