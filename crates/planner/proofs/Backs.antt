-- When a fleet steps back: every van can, and the rule between vans holds of what they come back to.
use Prim.Native.Nat.{ℕ, ◌≤◌, ◌<◌}
use mathlib.Core.Path.{◌≡◌, refl, sym, ap, ◌∙◌}
use mathlib.Core.Bool.{true}
use mathlib.Core.List.{List}
use lib.Dec.{ltb}
use lib.ListN.{length}
use borrow.Author.Tests.{lt-ltb}
use Rattle.laws.proofs.Below.{below-make}
use Rattle.laws.proofs.Choice.{or-else-zero, passed}
use Rattle.laws.specs.Basic.{or_else, unless}
use Rattle.rules.specs.Numbers.{refusal, kinds, most_vans}
use Rattle.rules.specs.Day.{Day}
use Rattle.rules.specs.declared.Van.{Van}
use Rattle.rules.specs.declared.Step.{Step}
use Rattle.board.specs.declared.State.{State}
use Rattle.trail.specs.Steps.{Ran, answered, undo_level, back_step}
use Rattle.trail.proofs.Since.{accepted}
use Rattle.fleet.specs.Fleet.{state_in, trail_in}
use Rattle.fleet.specs.Form.{shares_none}
use Rattle.fleet.specs.declared.Fleet.{Fleet}
use Rattle.turns.specs.Together.{RanAll, acted_all}
use Rattle.turns.specs.Turn.{turns_of}
use Rattle.acts.specs.Act.{back_bar, act_all}
use Rattle.turns.proofs.TogetherLaws.{together-is, unbarred}
use Rattle.turns.proofs.EachLaws.{turn_in}
use Rattle.acts.proofs.ActLaws.{act-back}
use Rattle.acts.proofs.Moves.{turn-back}

undo-taken : (n : ℕ) (s : State) (t : List ℕ) (r : State) (u : List ℕ) → back_step n s t ≡ answered 0 r u → (undo_level n s t).0 ≡ true
unfolding back_step
undo-taken n s t r u e =
    let z = (accepted (or_else (unless (ltb 0 s.depth) refusal.DEPTH) (unless (undo_level n s t).0 refusal.MISFIT)) s t _ r u e).0 in
    passed (undo_level n s t).0 refusal.MISFIT refl (or-else-zero (unless (ltb 0 s.depth) refusal.DEPTH) _ z).1

back-free : (n v : ℕ) (f : Fleet) (t : List ℕ) (g : Fleet) → 0 < (state_in f 0).depth → ((j : ℕ) → j < v → (undo_level n (state_in f j) (trail_in v t j)).0 ≡ true) → shares_none n v g ≡ true
    → back_bar n v f t g ≡ 0
unfolding back_bar or_else
back-free n v f t g l u h = rw (lt-ltb 0 (state_in f 0).depth l, below-make v (λ j. (undo_level n (state_in f j) (trail_in v t j)).0) u, h) refl

pub back-all-makes : (vans : ℕ → Van) (d : Day) (v : ℕ) (f g : Fleet) (t : List ℕ) (step : Step) → v ≤ most_vans → step.kind ≡ kinds.BACK → 0 < (state_in f 0).depth
    → length f.vans ≡ most_vans → length g.vans ≡ most_vans
    → ((j : ℕ) → j < v → back_step d.n (state_in f j) (trail_in v t j) ≡ answered 0 (state_in g j) (trail_in v t j))
    → ((j : ℕ) → v ≤ j → j < most_vans → state_in g j ≡ state_in f j) → shares_none d.n v g ≡ true
    → act_all vans d v f t step ≡ acted_all 0 0 g t
back-all-makes vans d v f g t step most q deep eight eight' backs rest apart =
    act-back vans d v f t step q
    ∙ unbarred (back_bar d.n v f t (turns_of d.n v f t step).0.fleet) f t (turns_of d.n v f t step)
    (back-free d.n v f t (turns_of d.n v f t step).0.fleet deep (λ j l. undo-taken d.n (state_in f j) (trail_in v t j) (state_in g j) (trail_in v t j) (backs j l))
    (ap (λ (r : RanAll). shares_none d.n v r.0.fleet) taken ∙ apart))
    ∙ taken
  where
    van : (j : ℕ) → j < v → turn_in d.n v step f t j ≡ answered 0 (state_in g j) (trail_in v t j)
    van j l = turn-back d.n step j (state_in f j) (trail_in v t j) q ∙ backs j l

    taken : turns_of d.n v f t step ≡ acted_all 0 0 g t
    taken = together-is v f t 0 (turn_in d.n v step f t) g t (record {
      states = λ j l. sym (ap (λ (r : Ran). r.0.state) (van j l));
      trails = λ j l. sym (ap (λ (r : Ran). r.1) (van j l));
      spare = rest;
      eight = eight';
      long = refl;
      over = refl;
    })
