use mathlib.Core.Path.{◌≡◌, sym, ap, ◌∙◌}
use native.Mathlib.Omega.{arith}
use Rattle.laws.proofs.Sweep.{swept, swept-start, map-turn, map-ends}
use Rattle.records.specs.Undoing.{cut}
use Rattle.records.proofs.UndoingLaws.{cut-none}
use Rattle.records.proofs.undo.cut_sets.Goals as goal

pub loop-y-init : goal.loop-y-init
loop-y-init c = sym (swept-start _ _)

pub loop-y-preserved : goal.loop-y-preserved
loop-y-preserved c = map-turn (cut _) _ _ (omega arith) c.loop-y.invariant c.cut_set.ensures.0

pub returns : goal.returns
returns c =
    let all : c.loop-y.y ≡ c.args.n = omega arith in
    (c.loop-y.invariant ∙ ap (swept _ _) all ∙ map-ends _ _ _ (cut-none _ c.ranges.legs.fits) c.requires.2, λ y h. c.fits-sets y)
