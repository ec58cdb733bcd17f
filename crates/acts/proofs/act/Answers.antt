use mathlib.Core.Path.{refl}
use Rattle.acts.proofs.KnownLaws.{known-eight}
use Rattle.acts.proofs.ActLaws.{act-van, act-unknown, did-as}
use Rattle.acts.proofs.DoneLaws.{did_of}
use Rattle.acts.proofs.act.Goals as goal

pub returns-then-kind : goal.returns-then-kind
returns-then-kind c =
    did-as (act-van _ _ _ _ _ _ c.if-kind-eq-LEVEL.false c.if-kind-eq-BACK.false c.if-kind-eq-OBLIGE.false c.if-kind.true) c.in_van.ensures

pub returns : goal.returns
returns c =
    did_of _ _ _ _ _ (refl, refl) (known-eight c.requires)
    (act-unknown _ _ _ _ _ _ c.if-kind-eq-LEVEL.false c.if-kind-eq-BACK.false c.if-kind-eq-OBLIGE.false c.if-kind.false)
