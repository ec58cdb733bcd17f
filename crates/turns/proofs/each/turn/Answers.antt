use borrow.Author.Tests.{eq-eqb, ne_eqb}
use Rattle.board.specs.Board.{state_with, board_of}
use Rattle.board.specs.declared.State.{State}
use Rattle.trail.proofs.StepLaws.{shut-out-asks}
use Rattle.turns.specs.Turn.{turn_of}
use Rattle.turns.proofs.TurnLaws.{turning-sound, exclude-free}
use Rattle.turns.proofs.each.turn.Goals as goal

pub place-requires-clause-sound : goal.place-requires-clause-sound
place-requires-clause-sound c = turning-sound c.requires

pub returns-then-j-step : goal.returns-then-j-step
unfolding turn_of
returns-then-j-step c =
    rw (eq-eqb _ _ c.if-step-eq-PLACE.true, eq-eqb _ _ c.if-j-step.true) (c.place.ensures c.args.levels.now)

pub shut_out-requires : goal.shut_out-requires
shut_out-requires c =
    let state : State = state_with c.args.route.now c.args.sets.now c.args.levels.now c.args.f in
    shut-out-asks _ (board_of state) _ _ _ _ c.requires.small (exclude-free c.requires c.if-step-eq-PLACE.true c.if-j-step.false)

pub returns-then-step-eq-PLACE : goal.returns-then-step-eq-PLACE
unfolding turn_of
returns-then-step-eq-PLACE c =
    rw (eq-eqb _ _ c.if-step-eq-PLACE.true, ne_eqb _ _ c.if-j-step.false)
    (c.shut_out.ensures c.args.n c.args.route.now c.args.levels.now (exclude-free c.requires c.if-step-eq-PLACE.true c.if-j-step.false))

pub returns-then-step-eq-LEVEL : goal.returns-then-step-eq-LEVEL
unfolding turn_of
returns-then-step-eq-LEVEL c =
    rw (ne_eqb _ _ c.if-step-eq-PLACE.false, eq-eqb _ _ c.if-step-eq-LEVEL.true) (c.level.ensures c.args.route.now c.args.sets.now c.args.trail.now)

pub back-requires-clause-sound : goal.back-requires-clause-sound
back-requires-clause-sound c = (turning-sound c.requires, c.requires.held.levels)

pub returns : goal.returns
unfolding turn_of
returns c =
    rw (ne_eqb _ _ c.if-step-eq-PLACE.false, ne_eqb _ _ c.if-step-eq-LEVEL.false) c.back.ensures
