-- The levels open after each step of a van, and after one of the fleet.
use Prim.Native.Nat.{ℕ, ◌+◌, ◌-◌, ◌<◌}
use mathlib.Core.Path.{◌≡◌, refl, sym, ap, subst, ◌∙◌}
use mathlib.Core.Bool.{Bool, true, false, cond}
use mathlib.Core.List.{List}
use mathlib.Core.Logic.{◌≢◌}
use native.Mathlib.Omega.{arith}
use lib.Dec.{eqb, leb, ltb}
use borrow.Author.Tests.{eqb-true, eqb-false, eq-eqb, leb-true}
use Rattle.laws.proofs.Logic.{decided, and-true}
use Rattle.laws.specs.Basic.{or_else, unless}
use Rattle.bits.specs.Places.{has}
use Rattle.bits.proofs.Members.{false-true}
use Rattle.rules.specs.Numbers.{refusal, kinds}
use Rattle.rules.specs.Day.{Day}
use Rattle.rules.specs.declared.Van.{Van}
use Rattle.rules.specs.declared.Step.{Step}
use Rattle.board.specs.Board.{board_of, set_of}
use Rattle.board.specs.declared.State.{State}
use Rattle.trail.specs.Steps.{Ran, acted, recorded, place_step, close_step, exclude_step, require_step, settle_step, level_step, undo_level, dropped, back_step, oblige_step}
use Rattle.trail.proofs.Must.{stays}
use Rattle.trail.proofs.Since.{accepted}
use Rattle.van.specs.Act.{act_of, owed_of, settled_sets, settling_rounds}
use Rattle.fleet.specs.Fleet.{state_in, trail_in}
use Rattle.fleet.specs.declared.Fleet.{Fleet}
use Rattle.turns.specs.Turn.{turn_of}
use Rattle.acts.specs.Act.{of_one_van}
use Rattle.acts.specs.Moved.{MovedAll, placed, alone, level, back, obliged, OthersStay}

either : (P : State → Type 0) (b : Bool) (x y : Ran) → P x.0.state → P y.0.state → P (cond b x y).0.state
either P true x y p q = p
either P false x y p q = q

-- ---- steps 1 to 5 and 8 leave the levels, refused or not

module _ (n : ℕ) (s : State) (t : List ℕ) where
  abbrev Deep : State → Type 0
  Deep r = r.depth ≡ s.depth

  pub place-depth : (p x : ℕ) → (place_step n s t p x).0.state.depth ≡ s.depth
  unfolding place_step recorded
  place-depth p x = stays Deep _ s t _ refl refl

  pub close-depth : (p x : ℕ) → (close_step n s t p x).0.state.depth ≡ s.depth
  unfolding close_step recorded
  close-depth p x = stays Deep _ s t _ refl refl

  pub exclude-depth : (owed : Bool) (x : ℕ) → (exclude_step n s t owed x).0.state.depth ≡ s.depth
  unfolding exclude_step recorded
  exclude-depth owed x = stays Deep _ s t _ refl (either Deep (eqb (set_of (board_of s) x) 0) _ _ refl refl)

  pub require-depth : (x : ℕ) → (require_step n s t x).0.state.depth ≡ s.depth
  unfolding require_step recorded
  require-depth x = stays Deep _ s t _ refl (either Deep (has s.marks x) _ _ refl refl)

  pub settle-depth : (rounds : ℕ) (new : List ℕ) → (settle_step s t rounds new).0.state.depth ≡ s.depth
  unfolding settle_step
  settle-depth rounds new = stays Deep _ s t _ refl refl

  pub oblige-depth : (x : ℕ) → (oblige_step n s t x).0.state.depth ≡ s.depth
  unfolding oblige_step recorded
  oblige-depth x = stays Deep _ s t _ refl (either Deep (has s.must x) _ _ refl refl)

-- a kind of step that is for one van is none of steps 6 and 7
not-one : {P : Type 0} (kind other : ℕ) → of_one_van kind ≡ true → eqb kind other ≡ true → of_one_van other ≡ false → P
not-one kind other e q n = absurd (false-true (sym n ∙ ap of_one_van (sym (eqb-true kind other q)) ∙ e))

-- so does any step of one van
pub act-depth : (v : Van) (d : Day) (s : State) (t : List ℕ) (kind a b : ℕ) → of_one_van kind ≡ true → (act_of v d s t kind a b).0.state.depth ≡ s.depth
unfolding act_of
act-depth v d s t kind a b e =
    either (Deep d.n s t) (eqb kind kinds.PLACE) _ _ (place-depth d.n s t a b)
    (either (Deep d.n s t) (eqb kind kinds.CLOSE) _ _ (close-depth d.n s t a b)
    (either (Deep d.n s t) (eqb kind kinds.EXCLUDE) _ _ (exclude-depth d.n s t (owed_of d s a) a)
    (either (Deep d.n s t) (eqb kind kinds.REQUIRE) _ _ (require-depth d.n s t a)
    (either (Deep d.n s t) (eqb kind kinds.SETTLE) _ _ (settle-depth d.n s t (settling_rounds v d s) (settled_sets v d s))
    (decided (eqb kind kinds.LEVEL) (λ q. not-one kind kinds.LEVEL e q refl)
    (λ q. rw q (decided (eqb kind kinds.BACK) (λ y. not-one kind kinds.BACK e y refl) (λ y. rw y refl))))))))

-- and any van's turn in a placing
pub turn-depth : (n : ℕ) (step : Step) (j : ℕ) (s : State) (t : List ℕ) → step.kind ≡ kinds.PLACE → (turn_of n step j s t).0.state.depth ≡ s.depth
unfolding turn_of
turn-depth n step j s t e =
    rw (eq-eqb step.kind kinds.PLACE e)
    (either (Deep n s t) (eqb j step.van) _ _ (place-depth n s t step.first step.second) (exclude-depth n s t false step.second))

-- ---- step 6 opens one, step 7 drops one

pub level-depth : (s : State) (t : List ℕ) {k : ℕ} (r : State) (u : List ℕ) → level_step s t ≡ acted 0 k r u → r.depth ≡ s.depth + 1
unfolding level_step
level-depth s t r u e = sym (ap (λ (q : Ran). q.0.state.depth) (accepted (unless (ltb s.depth 64) refusal.DEPTH) s t _ r u e).1)

pub back-depth : (n : ℕ) (s : State) (t : List ℕ) {k : ℕ} (r : State) (u : List ℕ) → back_step n s t ≡ acted 0 k r u → r.depth ≡ s.depth - 1
unfolding back_step dropped
back-depth n s t r u e =
    sym (ap (λ (q : Ran). q.0.state.depth) (accepted (or_else (unless (ltb 0 s.depth) refusal.DEPTH) (unless (undo_level n s t).0 refusal.MISFIT)) s t _ r u e).1)

-- ---- a step of the fleet

-- how a step changes the levels: in every van alike
pub data Shift (v : ℕ) (kind : ℕ) (f f' : Fleet) : Type 0 where
  keeps : kind ≢ kinds.BACK → ((j : ℕ) → j < v → (state_in f' j).depth ≡ (state_in f j).depth) → Shift v kind f f'
  opens : kind ≡ kinds.LEVEL → ((j : ℕ) → j < v → (state_in f' j).depth ≡ (state_in f j).depth + 1) → Shift v kind f f'
  drops : kind ≡ kinds.BACK → ((j : ℕ) → j < v → (state_in f' j).depth ≡ (state_in f j).depth - 1) → Shift v kind f f'

-- of van i alone
only : (v i : ℕ) {f f' : Fleet} {t t' : List ℕ} → OthersStay v i f t f' t' → (state_in f' i).depth ≡ (state_in f i).depth → (j : ℕ) → j < v → (state_in f' j).depth ≡ (state_in f j).depth
only v i {f} {f'} rest e j l =
    decided (eqb j i)
    (λ q. subst (λ (k : ℕ). (state_in f' k).depth ≡ (state_in f k).depth) (sym (eqb-true j i q)) e)
    (λ q. ap (λ (s : State). s.depth) (rest.state j l (eqb-false j i q)))

pub shift : {vans : ℕ → Van} {d : Day} {v : ℕ} {f : Fleet} {t : List ℕ} {step : Step} {k : ℕ} {f' : Fleet} {t' : List ℕ} → MovedAll vans d v f t step k f' t' → Shift v step.kind f f'
shift {vans} {d} {v} {f} {t} {step} (placed e z l shut free turns) = keeps (λ q. omega (arith, e)) (λ j h. sym (ap (λ (q : Ran). q.0.state.depth) (turns j h)) ∙ turn-depth d.n step j (state_in f j) (trail_in v t j) e)
shift {vans} {d} {v} {f} {t} {step} {f' = f'} (alone one other l act rest) =
    let most = leb-true step.kind kinds.SETTLE (and-true (leb kinds.PLACE step.kind) (leb step.kind kinds.SETTLE) one).1 in
    keeps (λ q. omega (arith, most))
    (only v step.van rest (sym (ap (λ (q : Ran). q.0.state.depth) act) ∙ act-depth (vans step.van) d (state_in f step.van) (trail_in v t step.van) step.kind step.first step.second one))
shift {vans} {d} {v} {f} {t} {step} {f' = f'} {t' = t'} (level e z turns) = opens e (λ j h. level-depth (state_in f j) (trail_in v t j) (state_in f' j) (trail_in v t' j) (turns j h))
shift {vans} {d} {v} {f} {t} {step} {f' = f'} {t' = t'} (back e z turns apart) = drops e (λ j h. back-depth d.n (state_in f j) (trail_in v t j) (state_in f' j) (trail_in v t' j) (turns j h))
shift {vans} {d} {v} {f} {t} {step} (obliged e z act rest) =
    keeps (λ q. omega (arith, e))
    (only v 0 rest (sym (ap (λ (q : Ran). q.0.state.depth) act) ∙ oblige-depth d.n (state_in f 0) (trail_in v t 0) step.first))

-- as many levels in every van
pub shifted : {v kind : ℕ} {f f' : Fleet} → Shift v kind f f' → 0 < v → ((j : ℕ) → j < v → (state_in f j).depth ≡ (state_in f 0).depth) → (j : ℕ) → j < v → (state_in f' j).depth ≡ (state_in f' 0).depth
shifted (keeps n e) some deep j l = e j l ∙ deep j l ∙ sym (e 0 some)
shifted {f = f} (opens n e) some deep j l = e j l ∙ ap (λ (k : ℕ). k + 1) (deep j l) ∙ sym (e 0 some)
shifted {f = f} (drops n e) some deep j l = e j l ∙ ap (λ (k : ℕ). k - 1) (deep j l) ∙ sym (e 0 some)
