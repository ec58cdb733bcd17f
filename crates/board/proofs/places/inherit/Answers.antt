use native.Mathlib.Omega.{arith}
use mathlib.Core.Path.{◌≡◌, sym, ap, ◌∙◌}
use Rattle.laws.proofs.Sweep.{swept, swept-start, map-turn, map-ends}
use Rattle.bits.proofs.Members.{has-none}
use Rattle.board.specs.Change.{heir}
use Rattle.board.proofs.Keep.{heir-no}
use Rattle.board.proofs.places.inherit.Goals as goal

pub loop-i-init : goal.loop-i-init
loop-i-init c = sym (swept-start _ _)

pub loop-i-preserved : goal.loop-i-preserved
loop-i-preserved c = map-turn (heir _ _) _ _ (omega arith) c.loop-i.invariant c.heir_of.ensures

pub returns : goal.returns
returns c =
    let e : c.loop-i.i ≡ c.args.n = omega arith in
    c.loop-i.invariant ∙ ap (swept _ _) e ∙ map-ends _ _ _ (heir-no _ _ 0 (has-none _)) c.requires.2
