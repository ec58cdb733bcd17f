use mathlib.Core.Path.{sym}
use Rattle.records.specs.Trail.{room_of}
use Rattle.trail.proofs.StepLaws.{not-owed}
use Rattle.trail.proofs.steps.exclude.Goals as goal

pub returns : goal.returns
unfolding room_of
returns c =
    let code = sym c.in_ok-exclude_refusal.ensures in
    let o = not-owed _ _ _ _ _ _ code in
    λ levels. rw o (c.shut_out.ensures _ _ levels (rw o at code))
