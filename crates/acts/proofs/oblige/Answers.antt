use mathlib.Core.Path.{sym, ap, ◌∙◌}
use mathlib.Core.List.{[]}
use Prim.Native.Nat.{ℕ, ◌/◌, ◌-◌}
use lib.ListN.{length, get_or, take, drop}
use Rattle.sheet.specs.Section.{n_of, vans_of}
use Rattle.trail.specs.Steps.{oblige_step}
use Rattle.van.proofs.Leaves.{oblige-leaves}
use Rattle.fleet.specs.Rows.{row_state}
use Rattle.fleet.proofs.FigureLaws.{figured-set}
use Rattle.turns.proofs.PutLaws.{spot-first, alone-noted}
use Rattle.acts.proofs.KnownLaws.{known-eight}
use Rattle.acts.proofs.ActLaws.{act-oblige, did-in-van}
use Rattle.acts.proofs.DoneLaws.{share-as}
use Rattle.acts.proofs.oblige.Goals as goal

pub returns : goal.returns
returns c =
    let share : ℕ = length c.args.trail.now / c.args.at.vans in
    let a = c.args in
    let p = c.requires.0 in
    rw (c.put_figures.ensures, c.after.ensures, c.figures_in-f.ensures)
    (did-in-van c.oblige-o.result c.rounds.ensures ((known-eight p).0, (known-eight p).1, (known-eight p).2, figured-set a.figures.now 0 _ p.figured)
    (act-oblige _ _ _ _ _ _ c.requires.1
    ∙ alone-noted (vans_of a.sheet.now) 0 0 share a.routes.now a.sets.now a.levels.now a.figures.now a.trail.now
    (λ s u. oblige_step (n_of a.sheet.now) s u a.step.first) _ c.oblige-o.result
    p.laid.fine.vans-low p.laid.fine.vans-high (spot-first (vans_of a.sheet.now) share a.trail.now (share-as a.trail.now p.laid.vans)) (known-eight p)
    (λ s u. oblige-leaves (n_of a.sheet.now) s u a.step.first)
    (sym (ap (λ (n : ℕ). oblige_step n (row_state a.routes.now a.sets.now a.levels.now a.figures.now 0)
    (take (share - 0) (drop 0 a.trail.now)) a.step.first) p.laid.nodes)
    ∙ rw c.figures_in-f.ensures at (c.oblige-o.ensures (get_or a.routes.now 0 []) (get_or a.sets.now 0 []) (get_or a.levels.now 0 [])))
    c.trail-1.given.0))
