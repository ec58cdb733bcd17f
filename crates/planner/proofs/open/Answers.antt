use mathlib.Core.Path.{sym, ap, ◌∙◌}
use borrow.Author.Tests.{ne_eqb}
use Rattle.std.proofs.lemmas.Result.{err_from_is_err_and}
use Rattle.rules.proofs.Refusals.{refuses}
use Rattle.day.specs.Tell.{admitted}
use Rattle.fleet.specs.declared.Fleet.{Fleet}
use Rattle.fleet.proofs.FleetLaws.{fresh-one}
use Rattle.planner.specs.Face.{open_of}
use Rattle.planner.proofs.open.Goals as goal

pub returns-in_err-laid : goal.returns-in_err-laid
unfolding open_of
returns-in_err-laid c =
    let p = err_from_is_err_and c.from_residual.result c.from_residual.ensures.1 in
    rw (p.1, p.2, sym c.in_err-laid.ensures.number, ne_eqb _ 0 (refuses c.in_err-laid.field-0.0.why))

pub returns-then-laid-eq1 : goal.returns-then-laid-eq1
unfolding open_of
returns-then-laid-eq1 c =
    let l = c.in_ok-laid.ensures.layout in
    rw (c.of_one.ensures, c.first_van.ensures, sym c.in_ok-laid.ensures.number, sym l.nodes, sym l.vans ∙ c.if-laid-eq1.true)
    (ap (λ (f : Fleet). record { answer = 0; fleet = f }) (fresh-one c.in_ok-laid.laid.nodes (admitted c.args.sheet.now)))

pub returns : goal.returns
unfolding open_of
returns c =
    let l = c.in_ok-laid.ensures.layout in
    rw (c.fresh.ensures, sym c.in_ok-laid.ensures.number, l.nodes, l.vans)
