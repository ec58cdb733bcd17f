use native.Mathlib.Omega.{arith}
use Prim.Native.Nat.{◌<◌}
use mathlib.Core.Path.{◌≡◌, refl, sym, ap}
use mathlib.Core.Bool.{not}
use Rattle.along.proofs.ReadyLaws.{nodes-most}
use Rattle.along.proofs.Facts.{two-stops, routed}
use Rattle.settle.proofs.RoundLaws.{kepts-all, kepts-same, jobs-none, jobs-more}
use Rattle.settle.proofs.Begun.{job_from, from-none, from_some, from-asked, from-apart, from_all}
use Rattle.settle.proofs.Struck.{sets_same}
use Rattle.settle.proofs.Strikes.{away, pair_turn, flag-more}
use Rattle.settle.proofs.strike.strike_pairs.Lts.{then-t-x-ne0, else-t-x-ne0}
use Rattle.settle.proofs.strike.strike_pairs.Goals as goal

pub loop-x-init : goal.loop-x-init
loop-x-init c = (jobs-none _ _ c.requires.ready.0.sized, let w = c.args.new.now in ap not (sym (sets_same w w refl)))

pub strike_pair-struck-requires-clause-t_len : goal.strike_pair-struck-requires-clause-t_len
strike_pair-struck-requires-clause-t_len c =
    let p = c.requires.ready in
    let b = c.requires.marked.1 in
    let node : c.loop-x.x < 64 = omega (arith, nodes-most p.0.laid) in
    let j = from-asked (routed p.0 b) c.args.pass p.1 c.loop-x.x node c.if-t-x-ne0.true in
    (b.long, j.0, j.1, omega (arith, two-stops p.0))

pub loop-x-preserved : goal.loop-x-preserved
loop-x-preserved c =
    let a = c.args in
    let r = c.requires.ready.0 in
    let v = c.loop-x.invariant in
    let x = c.loop-x.x in
    let node : x < 64 = omega (arith, nodes-most r.laid) in
    let g = job_from a.t.now in
    let apart = from-apart (routed r c.requires.marked.1) x node in
    elim c.if-t-x-ne0.branch [
      | then-t-x-ne0 w ↦ (
          let e = sym (from_some a.t.now x w.if-t-x-ne0.true) in
          let p = w.strike_pair-struck.ensures in
          rw (w.new-is, w.struck-is) (
            jobs-more _ g x e v.0 (kepts-same (λ y i b. pair_turn g a.h.now a.pass x apart v.0 _ e y i) p.0),
            flag-more r.sized v.0 p.0 v.1 p.1,
          )
          )
      | else-t-x-ne0 w ↦ (
          let e = sym (from-none a.t.now x w.if-t-x-ne0.false) in
          rw (w.new-is, w.struck-is) (jobs-more _ g x e v.0 (kepts-all v.0.long (λ y i b. away _ _ _ _ _ y i refl)), v.1)
          )
    ]

pub returns : goal.returns
returns c =
    let v = c.loop-x.invariant in
    let a = c.args in
    let e : c.loop-x.x ≡ a.at.nodes = omega arith in
    (kepts-same (λ y i b. from_all (routed c.requires.ready.0 c.requires.marked.1) a.new.now a.h.now a.pass y i) (rw e at v.0), v.1)
