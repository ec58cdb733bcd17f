use mathlib.Core.Path.{sym, ◌∙◌}
use native.Mathlib.Omega.{arith}
use Rattle.rules.proofs.Refusals.{handed, refuses}
use Rattle.rules.proofs.Inner.{is-inner}
use Rattle.trail.proofs.StepLaws.{not-shut}
use Rattle.bars.proofs.BarLaws.{shut_row, readable_row, room-vans, bar-shut, bar-claimed, bar-room}
use Rattle.bars.proofs.place_bar.Goals as goal

pub place_shut-requires : goal.place_shut-requires
place_shut-requires c = rw c.figures_in-f.ensures (readable_row c.args.van c.requires.0 c.requires.2)

pub returns-in_err-place_shut : goal.returns-in_err-place_shut
returns-in_err-place_shut c = λ levels t h.
    handed _ _ c.from_residual.ensures.1
    (bar-shut _ _ _ t _ _ _ (shut_row levels _ _ _ c.requires.0 c.requires.2 c.figures_in-f.ensures c.in_err-place_shut.ensures) (refuses _))

pub returns-then-is_claimed : goal.returns-then-is_claimed
returns-then-is_claimed c = λ levels t h.
    let passed = sym (shut_row levels _ _ _ c.requires.0 c.requires.2 c.figures_in-f.ensures c.in_ok-place_shut.ensures) in
    bar-claimed _ _ _ t _ _ _ passed (sym (c.is_claimed.ensures levels) ∙ c.if-is_claimed.true)

pub has_room-requires : goal.has_room-requires
has_room-requires c =
    let l = c.requires.0.laid in
    let passed = sym (shut_row c.args.sets.now _ _ _ c.requires.0 c.requires.2 c.figures_in-f.ensures c.in_ok-place_shut.ensures) in
    let split = not-shut _ _ _ _ passed in
    (omega (arith, l.vans, l.fine.vans-high), omega (arith, (is-inner _ _ split.0.node).1, l.fine.n-high), c.requires.1, c.requires.0.figured)

pub returns-then-has_room : goal.returns-then-has_room
returns-then-has_room c = λ levels t h.
    let a = c.args in
    let passed = sym (shut_row levels _ _ _ c.requires.0 c.requires.2 c.figures_in-f.ensures c.in_ok-place_shut.ensures) in
    bar-room _ _ _ t _ _ _ passed (sym (c.is_claimed.ensures levels) ∙ c.if-is_claimed.false)
    (sym c.if-has_room.true ∙ room-vans a.sets.now a.figures.now a.room a.van a.x c.requires.0.laid.vans c.has_room.ensures a.routes.now levels t h)

pub returns-else-has_room : goal.returns-else-has_room
returns-else-has_room c = λ levels t h.
    let a = c.args in
    let passed = sym (shut_row levels _ _ _ c.requires.0 c.requires.2 c.figures_in-f.ensures c.in_ok-place_shut.ensures) in
    bar-room _ _ _ t _ _ _ passed (sym (c.is_claimed.ensures levels) ∙ c.if-is_claimed.false)
    (sym c.if-has_room.false ∙ room-vans a.sets.now a.figures.now a.room a.van a.x c.requires.0.laid.vans c.has_room.ensures a.routes.now levels t h)
