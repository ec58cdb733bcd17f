use mathlib.Core.Path.{ap, ◌∙◌}
use mathlib.Core.List.{[]}
use lib.ListN.{get_or}
use Prim.Native.Nat.{◌<◌}
use native.Mathlib.Omega.{arith}
use Rattle.rules.specs.Verdict.{alive}
use Rattle.rules.specs.declared.Van.{Van}
use Rattle.sheet.specs.Section.{vans_of}
use Rattle.day.specs.Tell.{day_of}
use Rattle.van.specs.Act.{plan_in}
use Rattle.bars.proofs.BarLaws.{ready-row}
use Rattle.fleet.specs.Rows.{row_state}
use Rattle.planner.proofs.RowFacts.{row-lives}
use Rattle.planner.proofs.alive_at.Goals as goal

pub van-van-requires : goal.van-van-requires
van-van-requires c = (c.requires.0.laid, c.requires.2)

pub offset_bounds-figures-j : goal.offset_bounds-figures-j
offset_bounds-figures-j c = let l = c.requires.0.laid in omega (arith, l.vans, l.fine.vans-high)

pub bounds-figures-j : goal.bounds-figures-j
bounds-figures-j c = let l = c.requires.0.laid in omega (arith, l.vans, l.fine.vans-high)

pub figures_in-f-requires : goal.figures_in-f-requires
figures_in-f-requires c = let l = c.requires.0.laid in c.requires.0.figured.wide c.args.j (omega (arith, l.vans, l.fine.vans-high))

pub alive-requires : goal.alive-requires
alive-requires c =
    let low : c.args.j < vans_of c.args.sheet.now = omega (arith, c.requires.0.laid.vans) in
    rw c.figures_in-f.ensures (ready-row c.args.j c.requires.0 low, c.requires.1)

pub returns : goal.returns
returns c = λ levels.
    let a = c.args in
    let l = c.requires.0.laid in
    rw c.figures_in-f.ensures at (c.alive.ensures (get_or levels a.j []))
    ∙ ap (λ (w : Van). alive w (day_of a.sheet.now) (plan_in (row_state a.routes.now a.sets.now levels a.figures.now a.j))) c.van-van.ensures.0
    ∙ row-lives a.sheet.now a.routes.now a.sets.now levels a.figures.now a.j (omega (arith, l.vans, l.fine.vans-high))
