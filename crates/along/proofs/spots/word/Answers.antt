use mathlib.Core.Path.{◌≡◌, sym, ap, ◌∙◌}
use mathlib.Core.Bool.{Bool, ◌||◌}
use Prim.Native.Nat.{ℕ, ◌<◌}
use native.Mathlib.Numerals.{add-one}
use native.Mathlib.Omega.{arith}
use lib.Dec.{eqb}
use lib.ListN.{get_or, take, length, length-take}
use lib.Seq.{get_or-take, take-length}
use Rattle.laws.specs.Basic.{mem}
use Rattle.rules.specs.Along.{behind}
use Rattle.bits.specs.Places.{has}
use Rattle.bits.proofs.Members.{has-none, has-with}
use Rattle.along.proofs.SpotLaws.{behind-on}
use Rattle.along.proofs.spots.word.Goals as goal

pub loop-x-init : goal.loop-x-init
loop-x-init c = λ x. has-none x

pub loop-x-preserved : goal.loop-x-preserved
loop-x-preserved c = λ y.
    let v = c.loop-x in
    let m = take c.args.stops c.args.route.now in
    let p = get_or m v.x-index 0 in
    let i : v.x-index < c.args.stops = omega (arith, length-take c.args.stops c.args.route.now) in
    let low : p < 64 = omega (arith, get_or-take c.args.stops c.args.route.now v.x-index 0 i, c.requires.2 v.x-index i) in
    ap (λ (k : ℕ). has k y) c.put-w.ensures ∙ has-with v.w p y low
    ∙ ap (λ (b : Bool). eqb p y || b) (v.invariant y) ∙ ap (λ (k : ℕ). mem y (behind m k)) (sym (add-one v.x-index))

pub returns : goal.returns
returns c = λ y.
    let m = take c.args.stops c.args.route.now in
    let e : c.loop-x.x-index ≡ length m = omega arith in
    c.loop-x.invariant y ∙ ap (λ (k : ℕ). mem y (behind m k)) e ∙ behind-on m (length m) (omega arith) y ∙ ap (mem y) (take-length m)
