use Rattle.day.specs.Tell.{step_word}
use Rattle.dock.proofs.Reach.{known, step-did}
use Rattle.dock.proofs.lines.step_at.Goals as goal

pub settle-requires-clause-known_rows : goal.settle-requires-clause-known_rows
settle-requires-clause-known_rows c =
    let a = c.args in
    let s = c.requires.sheet_value in
    let r = c.requires.rows in
    (known s.0 s.1 a.routes.now a.sets.now a.levels.now a.figures.now r.3 c.requires.reached (r.0, r.1, r.2), c.if-step-eq-SETTLE.true)

pub returns-then-step-eq-SETTLE : goal.returns-then-step-eq-SETTLE
returns-then-step-eq-SETTLE c =
    let w = step_word c.args.sheet.now c.args.i in
    let d = step-did c.requires.sheet_value.0 c.requires.reached (w 0) (w 1) (w 2) c.step-step.ensures c.settle.ensures in
    record { i_value = d.0; rows_2 = d.1 }

pub act-requires : goal.act-requires
act-requires c =
    let a = c.args in
    let s = c.requires.sheet_value in
    let r = c.requires.rows in
    known s.0 s.1 a.routes.now a.sets.now a.levels.now a.figures.now r.3 c.requires.reached (r.0, r.1, r.2)

pub returns : goal.returns
returns c =
    let w = step_word c.args.sheet.now c.args.i in
    let d = step-did c.requires.sheet_value.0 c.requires.reached (w 0) (w 1) (w 2) c.step-step.ensures c.act.ensures in
    record { i_value = d.0; rows_2 = d.1 }
