use Prim.Native.Nat.{ℕ}
use mathlib.Core.Path.{◌≡◌, refl, sym, ap}
use mathlib.Core.Bool.{Bool, true, false, cond}
use mathlib.Core.List.{[], ◌∷◌}
use mir.Val.{bool_byte}
use borrow.Author.Tests.{ne_eqb}
use Rattle.probe.specs.Told.{told_of}
use Rattle.probe.proofs.ask.Goals as goal

pub returns-in-Ok : goal.returns-in-Ok
unfolding told_of
returns-in-Ok c = rw (c.in-0.is, sym c.in-Ok.ensures) refl

pub returns-in-Err : goal.returns-in-Err
unfolding told_of
returns-in-Err c = rw (c.refused.ensures, c.none.ensures, c.in-0.is, sym c.in-Err.ensures) refl

pub returns-in-Ok-answer : goal.returns-in-Ok-answer
unfolding told_of
returns-in-Ok-answer c = rw (c.in-1.is, c.step-s.ensures, c.in-Ok-answer.is) refl

pub returns-in-Err-answer : goal.returns-in-Err-answer
unfolding told_of
returns-in-Err-answer c = rw (c.refused-in-Err-answer.ensures, c.in-1.is, c.step-s.ensures, c.in-Err-answer.is) refl

pub returns-in-Ok-open_places : goal.returns-in-Ok-open_places
unfolding told_of
returns-in-Ok-open_places c = rw (c.in-2.is, sym c.in-Ok-open_places.ensures) refl

pub returns-in-Err-open_places : goal.returns-in-Err-open_places
unfolding told_of
returns-in-Err-open_places c = rw (c.refused-in-Err-open_places.ensures, c.in-2.is, sym c.in-Err-open_places.ensures) refl

-- 1 for alive
one-if : (b : Bool) → cond b 1 0 ≡ bool_byte b
one-if true = refl
one-if false = refl

pub returns-in-Ok-verdict : goal.returns-in-Ok-verdict
unfolding told_of
returns-in-Ok-verdict c =
    let other = c.in_default.in_default-own.rest in
    rw (ne_eqb _ 0 other.0.0.1, ne_eqb _ 1 other.0.1, ne_eqb _ 2 other.1, sym c.in-Ok-verdict.ensures, c.from.ensures)
    (ap (λ (n : ℕ). (0 ∷ 0 ∷ 0 ∷ n ∷ [], c.args.case.fleet, c.args.trail.now)) (one-if c.in-Ok-verdict.alive))

pub returns-in-Err-verdict : goal.returns-in-Err-verdict
unfolding told_of
returns-in-Err-verdict c =
    let other = c.in_default.in_default-own.rest in
    rw (c.refused-in-Err-verdict.ensures, ne_eqb _ 0 other.0.0.1, ne_eqb _ 1 other.0.1, ne_eqb _ 2 other.1, sym c.in-Err-verdict.ensures) refl
