use Rattle.fleet.specs.Rows.{fleet_with}
use Rattle.turns.proofs.EachLaws.{Taken}
use Rattle.turns.proofs.each.each.Given as goal

abbrev pub invariant-loop-j : goal.invariant-loop-j
invariant-loop-j l =
    Taken l.n l.v l.step (fleet_with l.initial.routes l.initial.sets l.initial.levels l.initial.figures) l.initial.trail
    l.j l.routes l.sets l.levels l.figures l.trail l.fits
