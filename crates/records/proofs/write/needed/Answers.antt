use Rattle.std.proofs.Common.{◌≡◌, ◌∙◌, ap, arith}
use Rattle.records.specs.Trail.{shrunk}
use Rattle.records.proofs.TrailLaws.{shrunk-none, shrunk-same, shrunk-differ, shrunk-end}
use Rattle.records.proofs.write.needed.Goals as goal
use Rattle.records.proofs.write.needed.Goals.{then-old-y, else-old-y}

pub loop-y-init : goal.loop-y-init
loop-y-init c = (omega arith, shrunk-none _ _)

pub loop-y-preserved : goal.loop-y-preserved
loop-y-preserved c =
    let old = c.args.old.now in
    let new = c.args.new.now in
    elim c.if-old-y.branch [
      | then-old-y w ↦ (omega arith, omega (arith, shrunk-differ old new c.loop-y.y w.if-old-y.true))
      | else-old-y w ↦ (omega arith, omega (arith, shrunk-same old new c.loop-y.y w.if-old-y.false))
    ]

pub returns : goal.returns
returns c =
    let a = c.args in
    let all : c.loop-y.y ≡ a.n = omega arith in
    (c.loop-y.invariant.1 ∙ ap (shrunk _ _) all ∙ shrunk-end a.old.now a.new.now a.n 64 c.requires.0 c.requires.1, omega arith)
