use mathlib.Core.Path.{refl}
use native.Mathlib.Omega.{arith}
use Rattle.acts.proofs.KnownLaws.{known-eight}
use Rattle.acts.proofs.ActLaws.{van-out}
use Rattle.acts.proofs.DoneLaws.{did_of}
use Rattle.acts.proofs.in_van.Goals as goal

pub returns-then-at-step : goal.returns-then-at-step
returns-then-at-step c =
    did_of _ _ _ _ _ (refl, refl) (known-eight c.requires) (van-out _ _ _ _ _ _ (omega (arith, c.if-at-step.true, c.requires.laid.vans)))
