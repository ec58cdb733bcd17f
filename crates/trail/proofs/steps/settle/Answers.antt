use mathlib.Core.Path.{refl, sym, ap, ap₂, ◌∙◌}
use mathlib.Core.List.{List}
use Prim.Native.Nat.{ℕ, ◌+◌, ◌/◌}
use lib.ListN.{length}
use native.Mathlib.Omega.{arith}
use borrow.Author.Tests.{lt-leb, le-leb, eqb-false}
use Rattle.rules.specs.Numbers.{refusal}
use Rattle.board.specs.Board.{state_of}
use Rattle.records.specs.Trail.{room_of, shrunk}
use Rattle.records.proofs.TrailLaws.{note-all, Noted}
use Rattle.trail.specs.Steps.{settle_step, acted}
use Rattle.trail.proofs.StepLaws.{step-no, step-yes, settle-still}
use Rattle.trail.proofs.steps.settle.Goals as goal

pub returns-then-rounds-eq0 : goal.returns-then-rounds-eq0
returns-then-rounds-eq0 c =
    λ route levels. rw (c.at.ensures, c.if-rounds-eq0.true, c.requires.records_bound.1 c.if-rounds-eq0.true) (settle-still _ _ c.requires.records_bound.0)

pub returns-then-room-i : goal.returns-then-room-i
unfolding settle_step room_of
returns-then-room-i c =
    let a = c.args in
    let e = lt-leb (a.f.records + shrunk a.sets.now a.new.now 64) (length a.trail.now / 2)
    (omega (arith, c.needed-more.ensures.0, c.if-room-i.true)) in
    λ route levels. rw e (step-no refusal.ROOM _ _ _ (eqb-false refusal.ROOM 0 refl))

pub returns : goal.returns
unfolding settle_step room_of
returns c =
    let a = c.args in
    let n = c.note-records.ensures in
    let h = le-leb (a.f.records + shrunk a.sets.now a.new.now 64) (length a.trail.now / 2)
    (omega (arith, c.needed-more.ensures.0, c.if-room-i.false)) in
    λ route levels. rw h
    (step-yes 0 _ _ _ refl
    ∙ ap₂ (λ (i : ℕ) (t : List ℕ). acted 0 a.rounds (state_of route a.f.stops a.new.now a.f.marks a.f.must levels a.f.depth i) t)
    (sym (note-all a.sets.now a.new.now 64 a.f.records a.trail.now).0 ∙ ap (λ (b : Noted). b.0) n) (ap (λ (b : Noted). b.1) n))
