use Rattle.board.specs.Board.{state_with}
use Rattle.board.proofs.FormLaws.{form-with}
use Rattle.records.proofs.UndoLaws.{readable}
use Rattle.along.proofs.Facts.{route-of}
use Rattle.van.proofs.Ready.{ready, known_sound, with-trail}
use Rattle.van.proofs.change.Goals as goal

pub placing-requires : goal.placing-requires
placing-requires c = known_sound c.requires.0

pub close-requires : goal.close-requires
close-requires c = known_sound c.requires.0

pub owed-owed-requires : goal.owed-owed-requires
owed-owed-requires c =
    let a = c.args in
    let k = c.requires.0 in
    (k.laid, route-of (ready (state_with a.route.now a.sets.now a.levels.now a.f) k.clear k.laid k.held (form-with _ _ _ k.form).0))

pub exclude-requires : goal.exclude-requires
exclude-requires c = known_sound c.requires.0

pub require-requires : goal.require-requires
require-requires c = readable _ _ (known_sound c.requires.0)

pub back-requires-clause-sound : goal.back-requires-clause-sound
back-requires-clause-sound c = (known_sound c.requires.0, c.requires.0.held.levels)

pub back-requires-clause-trail_value : goal.back-requires-clause-trail_value
back-requires-clause-trail_value c = with-trail _ _ c.requires.0.laid c.requires.0.form
