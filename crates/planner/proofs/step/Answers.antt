use mathlib.Core.Path.{◌≡◌, refl, sym, ap, ◌∙◌}
use native.Mathlib.Omega.{arith}
use Rattle.laws.proofs.Logic.{and-true}
use borrow.Author.Tests.{eqb-true}
use Rattle.std.specs.Prelude.{Result, Ok, Err, true, ℕ, is_ok}
use Rattle.rules.specs.Refused.{number_in}
use Rattle.rules.specs.declared.Refusal.{Refusal}
use Rattle.rules.proofs.Refusals.{refuses}
use Rattle.bits.proofs.Members.{false-true}
use Rattle.board.specs.declared.State.{State}
use Rattle.fleet.specs.Fleet.{one_van}
use Rattle.fleet.specs.Rows.{row_state, fleet_with}
use Rattle.fleet.specs.declared.Fleet.{Fleet}
use Rattle.fleet.proofs.FleetLaws.{state-of}
use Rattle.fleet.proofs.Told.{is-held-all}
use Rattle.trail.specs.Steps.{rounds_of}
use Rattle.turns.specs.Together.{acted_all}
use Rattle.planner.specs.Face.{step_of}
use Rattle.planner.proofs.RowFacts.{rows_taken}
use Rattle.planner.proofs.TakenLaws.{refused-sheet, one_left}
use Rattle.planner.proofs.step.Goals as goal

-- a step that is done is refused by no number
went : (o : Result ℕ Refusal) → is_ok o ≡ true → number_in o ≡ 0
went (Ok k) e = refl
went (Err r) e = absurd (false-true e)

pub returns-in-Err : goal.returns-in-Err
returns-in-Err c =
    let t = rows_taken _ (is-held-all c.args.fleet _ c.well_formed.1.0) c.take_routes.ensures c.take_sets.ensures c.take_levels.ensures c.take_figures.ensures in
    rw (c.from.ensures, c.fleet_of-fleet.ensures, t.is) (refused-sheet _ _ _ _ _ _ c.in-Err.ensures.number (refuses _))

pub fleet_of-fleet-requires : goal.fleet_of-fleet-requires
fleet_of-fleet-requires c = let t = rows_taken _ (is-held-all c.args.fleet _ c.well_formed.1.0) c.take_routes.ensures c.take_sets.ensures c.take_levels.ensures c.take_figures.ensures in t.rows.3

pub turn-answer-requires : goal.turn-answer-requires
turn-answer-requires c =
    let t = rows_taken _ (is-held-all c.args.fleet _ c.well_formed.1.0) c.take_routes.ensures c.take_sets.ensures c.take_levels.ensures c.take_figures.ensures in
    (sym c.in-Ok.ensures.number, c.in-Ok.ensures.layout, t.held, t.rows.0, t.rows.1, t.rows.2, t.rows.3)

pub returns-then-is_ok-at : goal.returns-then-is_ok-at
returns-then-is_ok-at c =
    let held = is-held-all c.args.fleet _ c.well_formed.1.0 in
    let t = rows_taken _ held c.take_routes.ensures c.take_sets.ensures c.take_levels.ensures c.take_figures.ensures in
    let a = c.args in
    let o = c.turn-answer.result in
    let n = c.turn-answer.new in
    let q = and-true c.is_ok.result _ c.if-is_ok-at.true in
    let gives = ap (λ (f : Fleet). step_of a.sheet.now f a.trail.now a.word a.first a.second) (sym t.is) ∙ c.turn-answer.ensures.0 in
    let took = gives ∙ ap (λ (k : ℕ). acted_all k (rounds_of o) (fleet_with n.routes n.sets n.levels n.figures) n.trail) (went o (sym c.is_ok.ensures.value ∙ q.0)) in
    let one = one_left a.sheet.now a.fleet a.trail.now a.word a.first a.second held took (sym c.in-Ok.ensures.layout.vans ∙ eqb-true _ _ q.1) in
    let first = state-of (row_state n.routes n.sets n.levels n.figures) 0 (omega arith) in
    rw (c.of_one.ensures, c.pack.ensures)
    (gives ∙ ap (λ (f : Fleet). acted_all (number_in o) (rounds_of o) f n.trail) (one ∙ ap (λ (s : State). one_van s) first))

pub returns : goal.returns
returns c =
    let t = rows_taken _ (is-held-all c.args.fleet _ c.well_formed.1.0) c.take_routes.ensures c.take_sets.ensures c.take_levels.ensures c.take_figures.ensures in
    let a = c.args in
    rw c.fleet_of.ensures (ap (λ (f : Fleet). step_of a.sheet.now f a.trail.now a.word a.first a.second) (sym t.is) ∙ c.turn-answer.ensures.0)
