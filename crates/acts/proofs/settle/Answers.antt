use mathlib.Core.Path.{refl, sym, ◌∙◌}
use native.Mathlib.Omega.{arith}
use Rattle.acts.proofs.KnownLaws.{known-eight}
use Rattle.acts.proofs.ActLaws.{van-out, act-settle, did-as}
use Rattle.acts.proofs.DoneLaws.{did_of, van-rests}
use Rattle.acts.proofs.settle.Goals as goal

pub returns-then-v-i : goal.returns-then-v-i
returns-then-v-i c =
    let p = c.requires.known_rows in
    did_of _ _ _ _ _ (refl, refl) (known-eight p.0)
    (act-settle _ _ _ _ _ _ p.1 ∙ van-out _ _ _ _ _ _ (omega (arith, c.if-v-i.true, p.0.laid.vans)))

pub returns-then-none_open : goal.returns-then-none_open
returns-then-none_open c =
    let p = c.requires.known_rows in
    did_of _ _ _ _ _ (refl, refl) (known-eight p.0)
    (act-settle _ _ _ _ _ _ p.1
    ∙ van-rests p.0 c.args.step p.1 (omega (arith, c.if-v-i.false, p.0.laid.vans)) (sym c.none_open.ensures ∙ c.if-none_open.true))

pub returns : goal.returns
returns c = did-as (act-settle _ _ _ _ _ _ c.requires.known_rows.1) c.settle_van.ensures
