use mathlib.Core.Path.{◌≡◌, sym, ap, ◌∙◌}
use Prim.Native.Nat.{ℕ, ◌<◌}
use native.Mathlib.Omega.{arith}
use lib.ListN.{get_or}
use Rattle.laws.proofs.Sweep.{swept, swept-start, sweep-up}
use Rattle.records.proofs.UndoingLaws.{swept-past}
use Rattle.records.proofs.undo.walk.Goals as goal

pub loop-i-init : goal.loop-i-init
loop-i-init c = λ n b last s e h. (sym (swept-start _ _), λ l. sym s.form.route.start)

pub bounds-next-p : goal.bounds-next-p
bounds-next-p c =
    let q = c.requires.by_index in
    let s = q.3 in
    let w = (c.loop-i.invariant q.0 q.1 q.2 s q.4 q.5).1 c.loop-i-test.true in
    omega (arith, s.small, w, s.form.route.below c.loop-i.i (omega (arith, q.4, c.loop-i-test.true)))

pub loop-i-preserved : goal.loop-i-preserved
loop-i-preserved c =
    λ n b last s e h.
    let w = c.loop-i.invariant n b last s e h in
    let p = w.1 c.loop-i-test.true in (
      sweep-up _ _ _ (s.wide.route ∙ sym c.requires.route_len.0) (omega (arith, s.small, s.form.route.most, e)) w.0 p,
      λ g. ap (λ (k : ℕ). get_or c.args.next.now k 0) p ∙ h.ahead _ (omega (arith, e)),
    )

pub loop-i-2-init : goal.loop-i-2-init
loop-i-2-init c =
    let all : c.loop-i.i ≡ c.args.stops = omega arith in
    λ n b last s e h. (c.loop-i.invariant n b last s e h).0 ∙ ap (swept _ _) all

pub loop-i-2-preserved : goal.loop-i-2-preserved
loop-i-2-preserved c =
    λ n b last s e h.
    let low : c.loop-i-2.i < 64 = omega (arith, c.requires.route_len.1) in
    sweep-up _ _ _ (s.wide.route ∙ sym c.requires.route_len.0) (omega (arith, low, c.requires.route_len.0)) (c.loop-i-2.invariant n b last s e h)
    (sym (s.form.route.past _ (omega (arith, e)) low))

pub returns : goal.returns
returns c =
    λ n b last s e h.
    c.loop-i-2.invariant n b last s e h
    ∙ swept-past _ _ _ (s.wide.route ∙ sym c.requires.route_len.0) (λ k g f.
    let low : k < 64 = omega (arith, c.requires.route_len.0) in
    c.requires.route_len.2 k (omega (arith, g, c.loop-i-2-test.false)) low ∙ sym (s.form.route.past k (omega (arith, e, g)) low))
