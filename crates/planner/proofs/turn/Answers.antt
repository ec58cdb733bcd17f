use mathlib.Core.Path.{sym, ap, ◌∙◌}
use Rattle.std.proofs.lemmas.Result.{err_from_is_err_and}
use Rattle.rules.proofs.Refusals.{refuses}
use Rattle.rules.specs.declared.Step.{Step}
use native.Mathlib.Omega.{arith}
use Rattle.sheet.specs.Section.{vans_of}
use Rattle.day.specs.Tell.{day_of, van_of}
use Rattle.fleet.specs.Rows.{fleet_with}
use Rattle.acts.specs.Act.{act_all}
use Rattle.planner.proofs.Answers.{ask-clear, call-made, call-yes}
use Rattle.planner.proofs.AskLaws.{sized}
use Rattle.planner.proofs.TakenLaws.{refused-asked, refused-room, room-found, form_both}
use Rattle.planner.proofs.turn.Goals as goal

pub asked-requires : goal.asked-requires
asked-requires c = let p = c.requires in (sized p.1, p.3, p.4, p.6)

pub returns-in_err-asked : goal.returns-in_err-asked
returns-in_err-asked c =
    let p = c.requires in
    let e = err_from_is_err_and c.from_residual.result c.from_residual.ensures.1 in
    rw (e.1, e.2) (refused-asked _ _ _ _ _ _ (c.in_err-asked.ensures _ p.0 p.1) (refuses _), p.6)

pub nonzero_div-room : goal.nonzero_div-room
nonzero_div-room c = omega (arith, (sized c.requires.1).some)

pub within_room-requires : goal.within_room-requires
within_room-requires c = ((sized c.requires.1).most, c.requires.6)

pub returns-then-not-within_room : goal.returns-then-not-within_room
returns-then-not-within_room c =
    let a = c.args in
    let p = c.requires in
    let room = room-found p.1 _ _ (c.within_room.ensures a.routes.now a.sets.now a.levels.now) in
    (refused-room _ _ _ _ _ _ (sym (c.in_ok-asked.ensures _ p.0 p.1)) room c.if-not-within_room.true, p.6)

pub act_whole-requires : goal.act_whole-requires
act_whole-requires c =
    let a = c.args in
    let p = c.requires in
    let clear = ask-clear _ _ (sym (c.in_ok-asked.ensures _ p.0 p.1)) in
    let form = form_both p.1 _ _ (c.within_room.ensures a.routes.now a.sets.now a.levels.now) clear.1 c.if-not-within_room.false in
    record { clear = p.0; laid = p.1; form = form; held = p.2; rows = (p.3, p.4, p.5); figured = p.6 }

pub returns : goal.returns
returns c =
    let a = c.args in
    let p = c.requires in
    let f = fleet_with a.routes.now a.sets.now a.levels.now a.figures.now in
    let clear = ask-clear _ _ (sym (c.in_ok-asked.ensures _ p.0 p.1)) in
    let form = form_both p.1 _ _ (c.within_room.ensures a.routes.now a.sets.now a.levels.now) clear.1 c.if-not-within_room.false in
    let acts = call-yes a.sheet.now f a.trail.now a.word a.first a.second (call-made a.sheet.now f a.trail.now clear.0 form) in
    let said = ap (λ (q : Step). act_all (van_of a.sheet.now) (day_of a.sheet.now) (vans_of a.sheet.now) f a.trail.now q) (sym c.said-said.ensures) in
    (acts ∙ said ∙ c.act_whole.ensures.0, c.act_whole.ensures.1)
