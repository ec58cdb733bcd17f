use mathlib.Core.Path.{refl, sym, ap, ◌∙◌}
use Prim.Native.Nat.{ℕ}
use borrow.Author.Tests.{ne_eqb}
use Rattle.std.proofs.lemmas.Result.{err_from_is_err_and}
use Rattle.rules.proofs.Refusals.{refuses}
use Rattle.fleet.proofs.Told.{is-held-all}
use Rattle.planner.proofs.RowFacts.{rows_taken}
use Rattle.planner.specs.Face.{Counted, count_of}
use Rattle.planner.proofs.AskLaws.{sized, sheet-first}
use Rattle.planner.proofs.CallFacts.{askable, asked_for, places-counted}
use Rattle.planner.proofs.open_places.Goals as goal

abbrev told : ℕ → Counted
told k = record { answer = 0; places = k }

pub returns-in_err-laid : goal.returns-in_err-laid
unfolding count_of
returns-in_err-laid c =
    let p = err_from_is_err_and c.from_residual.result c.from_residual.ensures.1 in
    rw (p.1, p.2, sym (sheet-first _ c.args.fleet _ c.in_err-laid.ensures.number (refuses _)), ne_eqb _ 0 (refuses c.in_err-laid.field-0.0.why))

pub asked-requires : goal.asked-requires
asked-requires c =
    let t = rows_taken _ (is-held-all c.args.fleet _ c.well_formed.1.0) c.take_routes.ensures c.take_sets.ensures c.take_levels.ensures c.take_figures.ensures in
    askable (sym c.in_ok-laid.ensures.number) c.in_ok-laid.ensures.layout t

pub returns-in_err-asked : goal.returns-in_err-asked
unfolding count_of
returns-in_err-asked c =
    let t = rows_taken _ (is-held-all c.args.fleet _ c.well_formed.1.0) c.take_routes.ensures c.take_sets.ensures c.take_levels.ensures c.take_figures.ensures in
    let p = err_from_is_err_and c.from_residual-in_err-asked.result c.from_residual-in_err-asked.ensures.1 in
    rw (p.1, p.2, sym (asked_for (sym c.in_ok-laid.ensures.number) c.in_ok-laid.ensures.layout t c.in_err-asked.ensures), ne_eqb _ 0 (refuses c.in_err-asked.field-0.0))

pub places-requires : goal.places-requires
places-requires c = let l = sized c.in_ok-laid.ensures.layout in (l.most, l.small)

pub returns : goal.returns
unfolding count_of
returns c =
    let t = rows_taken _ (is-held-all c.args.fleet _ c.well_formed.1.0) c.take_routes.ensures c.take_sets.ensures c.take_levels.ensures c.take_figures.ensures in
    let call = sym c.in_ok-laid.ensures.number in
    let l = c.in_ok-laid.ensures.layout in
    rw (sym (asked_for call l t c.in_ok-asked.ensures)) (ap told (c.places.ensures ∙ places-counted call l t c.in_ok-asked.ensures refl))
