use mathlib.Core.Path.{refl}
use native.Mathlib.Omega.{arith}
use Rattle.records.proofs.UndoLaws.{readable}
use Rattle.records.proofs.UndoingLaws.{undoing-none, ended}
use Rattle.records.proofs.undo.undo_many.Goals as goal

pub word-requires : goal.word-requires
word-requires c = let r = readable _ _ c.requires.0 in (omega (arith, r.1), λ i h. r.3 i (omega arith))

pub undo_from-u-requires : goal.undo_from-u-requires
undo_from-u-requires c =
    let p = c.requires in
    record { fits_value = ((_, undoing-none _ _ _ _ _ p.0 c.neighbours.ensures refl refl refl c.word.ensures), refl); base_le_records = (p.1, p.2) }

pub cut_sets-requires : goal.cut_sets-requires
cut_sets-requires c =
    let g = (c.undo_from-u.ensures _ (undoing-none _ _ _ _ _ c.requires.0 c.neighbours.ensures refl refl refl c.word.ensures)).1 in
    (g.long, g.sound.small, g.past)

pub walk-requires : goal.walk-requires
walk-requires c =
    let s = c.requires.0 in
    let g = (c.undo_from-u.ensures _ (undoing-none _ _ _ _ _ s c.neighbours.ensures refl refl refl c.word.ensures)).1 in
    record { route_len = (s.wide.route, (readable _ _ s).1, s.form.route.past); by_index = (_, _, _, g.sound, g.stops, g.beside) }

pub returns : goal.returns
returns c =
    let g = c.undo_from-u.ensures _ (undoing-none _ _ _ _ _ c.requires.0 c.neighbours.ensures refl refl refl c.word.ensures) in
    let k = c.cut_sets.ensures in
    ended _ _ _ _ _ _ g k.1 (c.walk.ensures _ _ _ g.1.sound g.1.stops g.1.beside) k.0
