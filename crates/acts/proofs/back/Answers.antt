use Rattle.acts.proofs.DoneLaws.{known-shares}
use mathlib.Core.Path.{◌≡◌, refl, sym, ◌∙◌}
use mathlib.Core.Bool.{Bool, true, false, ◌&&◌}
use native.Mathlib.Omega.{arith}
use Rattle.sheet.specs.Section.{n_of, vans_of}
use Rattle.fleet.specs.Form.{shares_none}
use Rattle.acts.proofs.KnownLaws.{known-turning, known-eight}
use Rattle.acts.proofs.ActLaws.{act-back, back_none}
use Rattle.acts.proofs.DoneLaws.{did_of, did-misfit, depth-row, barred-by, backed, nodes-row}
use Rattle.acts.proofs.back.Goals as goal

-- neither of two
unfit : (a b : Bool) → a ≡ false → a && b ≡ false
unfit a b e = rw e refl

shared : (a b : Bool) → a ≡ true → b ≡ false → a && b ≡ false
shared a b e q = rw (e, q) refl

pub returns-then-one-lt1 : goal.returns-then-one-lt1
returns-then-one-lt1 c =
    let a = c.args in
    let shut = rw c.figures_in-one.ensures at c.if-one-lt1.true in
    did_of _ _ _ _ _ (refl, refl) (known-eight c.requires.0)
    (barred-by _ _ _ _ (act-back _ _ _ _ _ _ c.requires.1)
    (back_none _ _ _ _ _ (omega (arith, shut, depth-row a.routes.now a.sets.now a.levels.now a.figures.now)))
    (λ z. omega (arith, z)))

pub each-requires-clause-le_v : goal.each-requires-clause-le_v
each-requires-clause-le_v c = known-shares c.requires.0

pub each-requires-clause-by_index : goal.each-requires-clause-by_index
each-requires-clause-by_index c = known-turning c.requires.0 c.args.step (λ j h z. absurd (omega (arith, z, c.requires.1)))

pub returns-then-not-each : goal.returns-then-not-each
returns-then-not-each c =
    let l = c.requires.0.laid in
    let deep = rw c.figures_in-one.ensures at c.if-one-lt1.false in
    let b = backed c.args.step _ _ c.each.result c.requires.0 c.requires.1 (omega (arith, deep)) (c.each.ensures.0, c.each.ensures.1) in
    let n = unfit c.each.result (shares_none (n_of c.args.sheet.now) (vans_of c.args.sheet.now) _) c.if-not-each.true in
    did-misfit _ _ _ _ c.requires.1 (omega (arith, l.vans, l.fine.vans-low)) (refl, refl) c.each.ensures.2 b.same (b.no n)
    (λ o. b.one (sym l.vans ∙ o) n)

pub share_none-requires-clause-by_index : goal.share_none-requires-clause-by_index
share_none-requires-clause-by_index c =
    let l = c.requires.0.laid in
    let deep = rw c.figures_in-one.ensures at c.if-one-lt1.false in
    let b = backed c.args.step _ _ c.each.result c.requires.0 c.requires.1 (omega (arith, deep)) (c.each.ensures.0, c.each.ensures.1) in
    λ j h. nodes-row c.each.new.routes c.each.new.sets c.each.new.levels c.each.new.figures j (omega (arith, h, l.vans, l.fine.vans-high)) l.nodes
    (b.boards j (omega (arith, h, l.vans)))

pub returns-then-share_none : goal.returns-then-share_none
returns-then-share_none c =
    let l = c.requires.0.laid in
    let deep = rw c.figures_in-one.ensures at c.if-one-lt1.false in
    let b = backed c.args.step _ _ c.each.result c.requires.0 c.requires.1 (omega (arith, deep)) (c.each.ensures.0, c.each.ensures.1) in
    did_of _ _ _ _ _ (refl, refl) c.each.ensures.2
    (b.yes c.if-not-each.false (rw (← l.nodes, ← l.vans) (sym (c.share_none.ensures c.each.new.levels) ∙ c.if-share_none.true)))

pub returns-else-share_none : goal.returns-else-share_none
returns-else-share_none c =
    let l = c.requires.0.laid in
    let deep = rw c.figures_in-one.ensures at c.if-one-lt1.false in
    let b = backed c.args.step _ _ c.each.result c.requires.0 c.requires.1 (omega (arith, deep)) (c.each.ensures.0, c.each.ensures.1) in
    let e = sym (c.share_none.ensures c.each.new.levels) ∙ c.if-share_none.false in
    let n = shared c.each.result _ c.if-not-each.false (rw (l.nodes, l.vans) at e) in
    did-misfit _ _ _ _ c.requires.1 (omega (arith, l.vans, l.fine.vans-low)) (refl, refl) c.each.ensures.2 b.same (b.no n)
    (λ o. b.one (sym l.vans ∙ o) n)
