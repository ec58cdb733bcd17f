use mathlib.Core.Path.{refl, sym, ◌∙◌}
use Rattle.acts.proofs.KnownLaws.{known-eight}
use Rattle.acts.proofs.DoneLaws.{did_of, van-rests}
use Rattle.acts.proofs.settle_alone.Goals as goal

pub returns-then-none_open : goal.returns-then-none_open
returns-then-none_open c =
    did_of _ _ _ _ _ (refl, refl) (known-eight c.requires.0)
    (van-rests c.requires.0 c.args.step c.requires.1 c.requires.2 (sym c.none_open.ensures ∙ c.if-none_open.true))
