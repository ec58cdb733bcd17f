use mathlib.Core.Path.{sym, subst, ◌∙◌}
use Rattle.board.specs.Board.{route_of, set_of, open_at}
use Rattle.board.proofs.EndLaws.{places-end}
use Rattle.along.proofs.ReadyLaws.{nodes-most}
use Rattle.along.proofs.Facts.{past-nodes, routed}
use Rattle.verdict.specs.Verdict.{Coursed}
use Rattle.telling.proofs.VanLaws.{told-written}
use Rattle.telling.proofs.tell.Goals as goal

pub count-places-requires : goal.count-places-requires
count-places-requires c = nodes-most c.requires.ready.0.laid

pub course_of-course-requires-clause-routed : goal.course_of-course-requires-clause-routed
course_of-course-requires-clause-routed c = let p = c.requires.ready in (routed p.0 p.2, p.3)

pub stand-alive-requires : goal.stand-alive-requires
stand-alive-requires c = let p = c.requires.ready in (p.2.long, p.2.near, p.0.sized)

pub returns-clause-by_index : goal.returns-clause-by_index
unfolding route_of open_at set_of
returns-clause-by_index c =
    let r = c.requires.ready.0 in
    let kept = c.course_of-course.ensures in
    let stands = c.stand-alive.ensures c.args.van _ _ _ _ r c.requires.ready.2 (subst (Coursed _ _ _ _) (sym kept.1) kept.0.course) in
    λ levels. rw (c.count-places.ensures.0 ∙ places-end _ _ (nodes-most r.laid) (past-nodes r), c.one_if.ensures, stands)
    (told-written c.args.row.now _ _ _ c.requires.ready.1)
