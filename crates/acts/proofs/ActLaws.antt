-- The step of each kind, and the two ways it ends.
use mathlib.Core.Path.{◌≡◌, refl, sym, ap, ap₂, ◌∙◌}
use mathlib.Core.Bool.{true, false, ◌&&◌}
use mathlib.Core.List.{List}
use mathlib.Core.Logic.{◌≢◌}
use Prim.Native.Nat.{ℕ, ◌≤◌, ◌<◌}
use native.Mathlib.Omega.{arith}
use lib.Dec.{eqb, ltb}
use borrow.Author.Tests.{lt-ltb, le-ltb, eq-eqb, ne_eqb}
use Rattle.laws.specs.Basic.{all_below, or_else, unless}
use Rattle.laws.proofs.Logic.{decided}
use Rattle.rules.specs.Numbers.{refusal, kinds}
use Rattle.rules.specs.Day.{Day}
use Rattle.rules.specs.declared.Van.{Van}
use Rattle.rules.specs.declared.Step.{Step}
use Rattle.board.specs.Board.{board_of}
use Rattle.board.specs.Held.{Sound}
use Rattle.board.specs.declared.State.{State}
use Rattle.trail.specs.declared.Outcome.{Outcome}
use Rattle.trail.specs.Steps.{rounds_in, rounds_of, unless_refused, undo_level, dropped, back_step, oblige_step}
use Rattle.records.proofs.UndoLaws.{many-sound}
use Rattle.van.specs.Act.{act_of}
use Rattle.fleet.specs.Fleet.{state_in, trail_in}
use Rattle.fleet.specs.Form.{shares_none}
use Rattle.fleet.specs.Rows.{fleet_with}
use Rattle.fleet.specs.declared.Fleet.{Fleet}
use Rattle.turns.specs.Together.{RanAll, acted_all, ran_all, unless_barred, alone}
use Rattle.turns.specs.Turn.{turns_of, EightRows}
use Rattle.bars.specs.Bars.{place_bar}
use Rattle.acts.specs.Act.{level_bar, back_bar, of_one_van, van_act, act_all}
use Rattle.acts.specs.Known.{Did}
use Rattle.std.specs.Prelude.{Result}
use Rattle.rules.specs.Refused.{number_in}
use Rattle.rules.specs.declared.Refusal.{Refusal}

-- ---- which kind it is

module _ (vans : ℕ → Van) (d : Day) (v : ℕ) (f : Fleet) (t : List ℕ) (step : Step) where
  pub van-out : v ≤ step.van → van_act vans d v f t step ≡ acted_all refusal.VAN 0 f t
  unfolding van_act
  van-out h = rw (le-ltb step.van v h) refl

  pub van-place : step.van < v → step.kind ≡ kinds.PLACE
      → van_act vans d v f t step ≡ unless_barred (place_bar d v f t step.van step.first step.second) f t (turns_of d.n v f t step)
  unfolding van_act
  van-place h k = rw (lt-ltb step.van v h, eq-eqb step.kind kinds.PLACE k) refl

  pub van-alone : step.van < v → step.kind ≢ kinds.PLACE
      → van_act vans d v f t step ≡ alone v f t step.van (λ s u. act_of (vans step.van) d s u step.kind step.first step.second)
  unfolding van_act
  van-alone h k = rw (lt-ltb step.van v h, ne_eqb step.kind kinds.PLACE k) refl

  pub act-level : step.kind ≡ kinds.LEVEL → act_all vans d v f t step ≡ unless_barred (level_bar f) f t (turns_of d.n v f t step)
  unfolding act_all
  act-level k = rw (eq-eqb step.kind kinds.LEVEL k) refl

  pub act-back : step.kind ≡ kinds.BACK
      → act_all vans d v f t step ≡ unless_barred (back_bar d.n v f t (turns_of d.n v f t step).0.fleet) f t (turns_of d.n v f t step)
  unfolding act_all
  act-back k = rw (ne_eqb step.kind kinds.LEVEL (λ z. omega (arith, k, z)), eq-eqb step.kind kinds.BACK k) refl

  pub act-oblige : step.kind ≡ kinds.OBLIGE → act_all vans d v f t step ≡ alone v f t 0 (λ s u. oblige_step d.n s u step.first)
  unfolding act_all
  act-oblige k =
      rw (ne_eqb step.kind kinds.LEVEL (λ z. omega (arith, k, z)), ne_eqb step.kind kinds.BACK (λ z. omega (arith, k, z)), eq-eqb step.kind kinds.OBLIGE k) refl

  module _ (l : step.kind ≢ kinds.LEVEL) (b : step.kind ≢ kinds.BACK) (o : step.kind ≢ kinds.OBLIGE) where
    pub act-van : of_one_van step.kind ≡ true → act_all vans d v f t step ≡ van_act vans d v f t step
    unfolding act_all
    act-van e = rw (ne_eqb step.kind kinds.LEVEL l, ne_eqb step.kind kinds.BACK b, ne_eqb step.kind kinds.OBLIGE o, e) refl

    pub act-unknown : of_one_van step.kind ≡ false → act_all vans d v f t step ≡ acted_all refusal.KIND 0 f t
    unfolding act_all
    act-unknown e = rw (ne_eqb step.kind kinds.LEVEL l, ne_eqb step.kind kinds.BACK b, ne_eqb step.kind kinds.OBLIGE o, e) refl

  pub act-settle : step.kind ≡ kinds.SETTLE → act_all vans d v f t step ≡ van_act vans d v f t step
  act-settle k = act-van (λ z. omega (arith, k, z)) (λ z. omega (arith, k, z)) (λ z. omega (arith, k, z)) (ap of_one_van k)

-- ---- done in place

-- what the arrays hold is what the step gives
pub did : {k v : ℕ} {want : RanAll} (o : Result ℕ Refusal) {routes sets levels figures : List (List ℕ)} {t : List ℕ} → EightRows routes sets levels figures → want ≡ ran_all o routes sets levels figures t
    → Did k v want o routes sets levels figures t
did o rows e = record {
  answer = sym (ap (λ (r : RanAll). r.0.answer) e);
  whole = λ n. e;
  trail = λ z. sym (ap (λ (r : RanAll). r.1) e);
  eight = rows;
}

-- a step of one van, of which the code hands on the refusal or the rounds
pub did-in-van : {k v : ℕ} {want : RanAll} {r : Result ℕ Refusal} (o : Result Outcome Refusal) {routes sets levels figures : List (List ℕ)} {t : List ℕ}
    → (number_in r ≡ number_in o) × (rounds_of r ≡ rounds_in o) → EightRows routes sets levels figures
    → want ≡ acted_all (number_in o) (rounds_in o) (fleet_with routes sets levels figures) t → Did k v want r routes sets levels figures t
did-in-van o {routes} {sets} {levels} {figures} {t} h rows e =
    did _ rows (e ∙ ap₂ (λ (a k : ℕ). acted_all a k (fleet_with routes sets levels figures) t) (sym h.0) (sym h.1))

-- the same of a step by another name
pub did-as : {k v : ℕ} {want other : RanAll} {o : Result ℕ Refusal} {routes sets levels figures : List (List ℕ)} {t : List ℕ} → other ≡ want → Did k v want o routes sets levels figures t
    → Did k v other o routes sets levels figures t
did-as e d = record {
  answer = d.answer ∙ sym (ap (λ (r : RanAll). r.0.answer) e);
  whole = λ n. e ∙ d.whole n;
  trail = λ z. d.trail z ∙ sym (ap (λ (r : RanAll). r.1) e);
  eight = d.eight;
}

-- ---- opening a level

pub level-open : (f : Fleet) → (state_in f 0).depth < 64 → level_bar f ≡ 0
unfolding level_bar
level-open f h = rw (lt-ltb (state_in f 0).depth 64 h) refl

pub level-full : (f : Fleet) → 64 ≤ (state_in f 0).depth → level_bar f ≡ refusal.DEPTH
unfolding level_bar
level-full f h = rw (le-ltb (state_in f 0).depth 64 h) refl

-- ---- stepping back

-- accepted, where a level is open, just if the records fit
pub back_fits : (n : ℕ) (s : State) (t : List ℕ) → 0 < s.depth → eqb (back_step n s t).0.answer 0 ≡ (undo_level n s t).0
unfolding back_step unless_refused or_else
back_fits n s t h =
    rw (lt-ltb 0 s.depth h) (decided (undo_level n s t).0 (λ e. rw e refl) (λ e. rw e refl))

-- refused for its records, it leaves the state
pub back-stays : (n : ℕ) (s : State) (t : List ℕ) → 0 < s.depth → (undo_level n s t).0 ≡ false → (back_step n s t).0.state ≡ s
unfolding back_step unless_refused or_else
back-stays n s t h e = rw (lt-ltb 0 s.depth h, e) refl

-- it leaves the trail, refused or not
pub back-trail : (n : ℕ) (s : State) (t : List ℕ) → (back_step n s t).1 ≡ t
unfolding back_step unless_refused
back-trail n s t =
    let k = or_else (unless (ltb 0 s.depth) refusal.DEPTH) (unless (undo_level n s t).0 refusal.MISFIT) in
    decided (eqb k 0) (λ e. rw e refl) (λ e. rw e refl)

-- and a board in form
pub back-sound : (n : ℕ) (s : State) (t : List ℕ) → Sound n (board_of s) → Sound n (board_of (back_step n s t).0.state)
unfolding back_step unless_refused undo_level dropped
back-sound n s t h =
    let k = or_else (unless (ltb 0 s.depth) refusal.DEPTH) (unless (undo_level n s t).0 refusal.MISFIT) in
    decided (eqb k 0) (λ e. rw e (many-sound _ n (board_of s) s.records t h)) (λ e. rw e h)

pub back_none : (n v : ℕ) (f : Fleet) (t : List ℕ) (g : Fleet) → (state_in f 0).depth < 1 → back_bar n v f t g ≡ refusal.DEPTH
unfolding back_bar or_else
back_none n v f t g h = rw (le-ltb 0 (state_in f 0).depth (omega arith)) refl

pub back-asks : (n v : ℕ) (f : Fleet) (t : List ℕ) (g : Fleet) → 1 ≤ (state_in f 0).depth
    → back_bar n v f t g ≡ unless (all_below v (λ j. (undo_level n (state_in f j) (trail_in v t j)).0) && shares_none n v g) refusal.MISFIT
unfolding back_bar or_else
back-asks n v f t g h = rw (lt-ltb 0 (state_in f 0).depth (omega arith)) refl
