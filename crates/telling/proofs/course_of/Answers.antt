use mathlib.Core.Path.{refl}
use Rattle.telling.proofs.VanLaws.{way-kept, as_before_lem}
use Rattle.telling.proofs.course_of.Goals as goal

pub returns-then-every-way : goal.returns-then-every-way
returns-then-every-way c = way-kept c.args.way.now c.sound-course.result c.requires.routed.1 c.one_if.ensures c.sound-course.ensures

pub returns : goal.returns
returns c = let b = as_before_lem c.args.every _ _ c.if-every-way.false in (c.requires.kept b.0 b.1, refl)
