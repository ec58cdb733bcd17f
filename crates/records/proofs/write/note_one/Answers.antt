use Rattle.records.proofs.TrailLaws.{note-same, note-differ}
use Rattle.records.proofs.write.note_one.Goals as goal

pub returns-then-w-v : goal.returns-then-w-v
returns-then-w-v c = note-same _ _ _ _ c.if-w-v.true

pub returns : goal.returns
returns c =
    rw (c.push.ensures, c.first_word.ensures) (note-differ _ _ _ _ c.if-w-v.false)
