use native.Mathlib.Omega.{arith}
use mathlib.Core.Path.{refl}
use Rattle.rules.proofs.Inner.{is-inner}
use Rattle.board.specs.Board.{route_of}
use Rattle.board.specs.Change.{placed_after}
use Rattle.board.proofs.Keep.{split-inside}
use Rattle.board.proofs.EndLaws.{sets_end}
use Rattle.board.proofs.change.place.Goals as goal

pub overflow_add-at : goal.overflow_add-at
unfolding route_of
overflow_add-at c =
    let d = c.requires in
    let s = d.2 in
    omega (arith, split-inside _ _ _ _ s.small s.wide s.form d.3, c.position-at.ensures)

pub insert-requires : goal.insert-requires
unfolding route_of
insert-requires c =
    let d = c.requires in
    let s = d.2 in
    (omega (arith, split-inside _ _ _ _ s.small s.wide s.form d.3, c.position-at.ensures, s.small, s.form.route.most), s.wide.route)

pub inherit-requires : goal.inherit-requires
inherit-requires c = let s = c.requires.2 in (s.wide.sets, s.small, sets_end _ _ s)

pub offset_bounds-sets-x : goal.offset_bounds-sets-x
offset_bounds-sets-x c = let d = c.requires in omega (arith, (is-inner _ _ d.3.node).1, d.2.small)

pub bounds-sets-x : goal.bounds-sets-x
bounds-sets-x c = let d = c.requires in omega (arith, (is-inner _ _ d.3.node).1, d.2.small)

pub returns : goal.returns
unfolding placed_after route_of
returns c = λ marks must. rw (c.inherit.ensures, c.insert.ensures, c.position-at.ensures) refl
