use Rattle.std.proofs.lemmas.Bool.{not_from_false, not_from_true}
use mathlib.Core.Path.{refl, sym, ap, ◌∙◌}
use mathlib.Core.Bool.{Bool}
use Prim.Native.Nat.{ℕ}
use borrow.Author.Tests.{ne_eqb, not-true, not-false}
use Rattle.std.proofs.lemmas.Result.{err_from_is_err_and}
use Rattle.rules.proofs.Refusals.{refuses}
use Rattle.fleet.specs.Rows.{fleet_with}
use Rattle.fleet.specs.Sums.{all_served}
use Rattle.fleet.proofs.ServedLaws.{serving}
use Rattle.fleet.proofs.Told.{is-held-all}
use Rattle.planner.proofs.RowFacts.{rows_taken}
use Rattle.planner.specs.Face.{Judged, judge_of}
use Rattle.planner.proofs.AskLaws.{sheet-first}
use Rattle.planner.proofs.CallFacts.{askable, asked_for, ready-asked, all-judged}
use Rattle.planner.proofs.verdict.Goals as goal

abbrev told : Bool → Judged
told b = record { answer = 0; alive = b }

pub returns-in_err-laid : goal.returns-in_err-laid
unfolding judge_of
returns-in_err-laid c =
    let p = err_from_is_err_and c.from_residual.result c.from_residual.ensures.1 in
    rw (p.1, p.2, sym (sheet-first _ c.args.fleet _ c.in_err-laid.ensures.number (refuses _)), ne_eqb _ 0 (refuses c.in_err-laid.field-0.0.why))

pub asked-requires : goal.asked-requires
asked-requires c =
    let t = rows_taken _ (is-held-all c.args.fleet _ c.well_formed.1.0) c.take_routes.ensures c.take_sets.ensures c.take_levels.ensures c.take_figures.ensures in
    askable (sym c.in_ok-laid.ensures.number) c.in_ok-laid.ensures.layout t

pub returns-in_err-asked : goal.returns-in_err-asked
unfolding judge_of
returns-in_err-asked c =
    let t = rows_taken _ (is-held-all c.args.fleet _ c.well_formed.1.0) c.take_routes.ensures c.take_sets.ensures c.take_levels.ensures c.take_figures.ensures in
    let p = err_from_is_err_and c.from_residual-in_err-asked.result c.from_residual-in_err-asked.ensures.1 in
    rw (p.1, p.2, sym (asked_for (sym c.in_ok-laid.ensures.number) c.in_ok-laid.ensures.layout t c.in_err-asked.ensures), ne_eqb _ 0 (refuses c.in_err-asked.field-0.0))

pub by_node-requires : goal.by_node-requires
by_node-requires c = (c.in_ok-laid.ensures.layout, refl)

pub all_alive-requires : goal.all_alive-requires
all_alive-requires c =
    let t = rows_taken _ (is-held-all c.args.fleet _ c.well_formed.1.0) c.take_routes.ensures c.take_sets.ensures c.take_levels.ensures c.take_figures.ensures in
    (ready-asked (sym c.in_ok-laid.ensures.number) c.in_ok-laid.ensures.layout t c.in_ok-asked.ensures refl, c.by_node.ensures)

pub returns-then-not-all_alive : goal.returns-then-not-all_alive
unfolding judge_of
returns-then-not-all_alive c =
    let t = rows_taken _ (is-held-all c.args.fleet _ c.well_formed.1.0) c.take_routes.ensures c.take_sets.ensures c.take_levels.ensures c.take_figures.ensures in
    let call = sym c.in_ok-laid.ensures.number in
    let l = c.in_ok-laid.ensures.layout in
    let judged = all-judged call l t c.in_ok-asked.ensures refl (c.all_alive.ensures c.take_levels.new.rows) in
    rw (sym (asked_for call l t c.in_ok-asked.ensures)) (ap told (rw (not-true c.all_alive.result (not_from_false _ c.if-not-all_alive.true)) at judged))

pub served-requires : goal.served-requires
served-requires c =
    let t = rows_taken _ (is-held-all c.args.fleet _ c.well_formed.1.0) c.take_routes.ensures c.take_sets.ensures c.take_levels.ensures c.take_figures.ensures in
    let s = serving (ready-asked (sym c.in_ok-laid.ensures.number) c.in_ok-laid.ensures.layout t c.in_ok-asked.ensures refl) in
    record { v_le_most_vans = s.0; by_index = s.1 }

pub returns : goal.returns
unfolding judge_of
returns c =
    let t = rows_taken _ (is-held-all c.args.fleet _ c.well_formed.1.0) c.take_routes.ensures c.take_sets.ensures c.take_levels.ensures c.take_figures.ensures in
    let call = sym c.in_ok-laid.ensures.number in
    let l = c.in_ok-laid.ensures.layout in
    let rows = fleet_with c.take_routes.new.rows c.take_sets.new.rows c.take_levels.new.rows c.take_figures.new.rows in
    let judged = all-judged call l t c.in_ok-asked.ensures refl (c.all_alive.ensures c.take_levels.new.rows) in
    let all = c.served.ensures c.take_levels.new.rows ∙ ap (λ (w : ℕ). all_served w rows) l.vans in
    rw (sym (asked_for call l t c.in_ok-asked.ensures)) (ap told (all ∙ rw (not-false c.all_alive.result (not_from_true _ c.if-not-all_alive.false)) at judged))
