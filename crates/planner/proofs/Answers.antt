-- A step refused, and a step accepted: what it knows, van by van.
use Prim.Native.Nat.{ℕ, ◌/◌, ◌%◌, ◌<◌}
use mathlib.Core.Path.{◌≡◌, refl, sym, ap, subst, ◌∙◌}
use mathlib.Core.Bool.{Bool, true, false, cond}
use mathlib.Core.List.{List}
use mathlib.Core.Logic.{◌⊎◌, inl, inr, ◌≢◌}
use native.Mathlib.Omega.{arith}
use lib.Dec.{eqb}
use borrow.Author.Tests.{eqb-true, eqb-false, eq-eqb, ne_eqb}
use Rattle.laws.proofs.Logic.{decided}
use Rattle.laws.proofs.Choice.{or-else-zero, passed}
use Rattle.laws.specs.Basic.{or_else}
use Rattle.sheet.specs.Section.{n_of, vans_of}
use Rattle.day.specs.Refuse.{call_refusal}
use Rattle.day.proofs.RefuseLaws.{call-fine}
use Rattle.day.specs.Tell.{day_of, van_of}
use Rattle.rules.specs.Numbers.{refusal, kinds, van_weight, step_said}
use Rattle.rules.specs.Settle.{rounds, settled}
use Rattle.rules.specs.Day.{Day}
use Rattle.rules.specs.declared.Van.{Van}
use Rattle.rules.specs.declared.Step.{Step}
use Rattle.board.specs.declared.State.{State}
use Rattle.trail.specs.Steps.{Ran, acted}
use Rattle.trail.specs.Steps as trail
use Rattle.trail.specs.Refusals.{place_shut}
use Rattle.trail.specs.Run as run
use Rattle.van.specs.Act.{act_of, owed_of, settled_sets, settling_rounds}
use Rattle.van.proofs.Called.{Called, call-taken}
use Rattle.van.proofs.Moves.{act-moves}
use Rattle.van.proofs.Plans.{settled-plan}
use Rattle.fleet.specs.Fleet.{state_in, board_in, trail_in, HeldAll}
use Rattle.fleet.specs.Form.{in_form_all, form_with_all}
use Rattle.fleet.specs.declared.Fleet.{Fleet}
use Rattle.fleet.proofs.FormLaws.{form-with-van}
use Rattle.turns.specs.Together.{RanAll, acted_all}
use Rattle.acts.specs.Act.{act_all}
use Rattle.turns.specs.Turn.{turn_of}
use Rattle.bars.specs.Bars.{claimed}
use Rattle.acts.specs.Moved.{OthersStay, RestStays, MovedAll, placed, alone, level, back, obliged}
use Rattle.planner.specs.Face.{ask_refusal, step_of, step_refusal}
use Rattle.planner.specs.Promises.{Took, Unchanged, in_van_word, plan_at}
use Rattle.acts.proofs.Moves.{act-all-moves, act-all-leaves}

-- ---- a call that is not refused

pub ask-clear : (sheet : List ℕ) (f : Fleet) → ask_refusal sheet f ≡ 0 → (call_refusal sheet ≡ 0) × (in_form_all (n_of sheet) (vans_of sheet) f ≡ true)
unfolding ask_refusal
ask-clear sheet f e = let h = or-else-zero (call_refusal sheet) _ e in (h.0, passed (in_form_all (n_of sheet) (vans_of sheet) f) refusal.FORM refl h.1)

pub call-clear : (sheet : List ℕ) (f : Fleet) (t : List ℕ) → step_refusal sheet f t ≡ 0
    → (call_refusal sheet ≡ 0) × (form_with_all (n_of sheet) (vans_of sheet) f t ≡ true)
unfolding step_refusal
call-clear sheet f t e = let h = or-else-zero (call_refusal sheet) _ e in (h.0, passed (form_with_all (n_of sheet) (vans_of sheet) f t) refusal.FORM refl h.1)

pub call-made : (sheet : List ℕ) (f : Fleet) (t : List ℕ) → call_refusal sheet ≡ 0 → form_with_all (n_of sheet) (vans_of sheet) f t ≡ true → step_refusal sheet f t ≡ 0
unfolding step_refusal or_else
call-made sheet f t z e = rw (z, e)

module _ (sheet : List ℕ) (f : Fleet) (t : List ℕ) (word a b : ℕ) where
  pub call-yes : step_refusal sheet f t ≡ 0 → step_of sheet f t word a b ≡ act_all (van_of sheet) (day_of sheet) (vans_of sheet) f t (step_said word a b)
  unfolding step_of
  call-yes e = rw (eq-eqb (step_refusal sheet f t) 0 e)

  pub call-no : (step_refusal sheet f t ≡ 0 → ⊥) → step_of sheet f t word a b ≡ acted_all (step_refusal sheet f t) 0 f t
  unfolding step_of
  call-no n = rw (ne_eqb (step_refusal sheet f t) 0 n)

  -- an accepted step was called on a fine sheet and a fleet in form, and it acted
  pub acting : {k : ℕ} {f' : Fleet} {t' : List ℕ} → Took sheet f t word a b k f' t'
      → (call_refusal sheet ≡ 0) × (form_with_all (n_of sheet) (vans_of sheet) f t ≡ true)
      × (act_all (van_of sheet) (day_of sheet) (vans_of sheet) f t (step_said word a b) ≡ acted_all 0 k f' t')
  acting e =
      decided (eqb (step_refusal sheet f t) 0)
      (λ q. let z = eqb-true (step_refusal sheet f t) 0 q in let c = call-clear sheet f t z in (c.0, c.1, sym (call-yes z) ∙ e))
      (λ q. let n = eqb-false (step_refusal sheet f t) 0 q in
      absurd (n (sym (ap (λ (r : RanAll). r.0.answer) (call-no n)) ∙ ap (λ (r : RanAll). r.0.answer) e)))

-- each van of a fleet in form, as the van's laws ask for it
pub van-called : (sheet : List ℕ) (f : Fleet) (t : List ℕ) → call_refusal sheet ≡ 0 → form_with_all (n_of sheet) (vans_of sheet) f t ≡ true
    → (j : ℕ) → j < vans_of sheet → Called sheet (state_in f j) (trail_in (vans_of sheet) t j)
van-called sheet f t z e j l =
    let fine = call-fine sheet z in
    call-taken sheet (state_in f j) (trail_in (vans_of sheet) t j) z (form-with-van (n_of sheet) (vans_of sheet) f t fine.n-high fine.vans-high e j l)

-- what the vans did in an accepted step
pub moved : (sheet : List ℕ) (f : Fleet) (t : List ℕ) (word a b : ℕ) {k : ℕ} {f' : Fleet} {t' : List ℕ} → HeldAll f → Took sheet f t word a b k f' t'
    → MovedAll (van_of sheet) (day_of sheet) (vans_of sheet) f t (step_said word a b) k f' t' × RestStays (vans_of sheet) f t f' t'
moved sheet f t word a b {k} {f'} {t'} held e =
    let u = acting sheet f t word a b e in
    let fine = call-fine sheet u.0 in
    act-all-moves (van_of sheet) (day_of sheet) (vans_of sheet) f t (step_said word a b) fine.vans-low fine.vans-high fine.n-high u.1 u.2

-- ---- a step of one kind in one van

-- the van and the kind that a first word says
pub word-van : (i kind : ℕ) → kind < van_weight → in_van_word i kind / van_weight ≡ i
word-van i kind l = omega arith

pub word-kind : (i kind : ℕ) → kind < van_weight → in_van_word i kind % van_weight ≡ kind
word-kind i kind l = omega arith

-- the step of a kind in van i
abbrev pub step_in : ℕ → ℕ → ℕ → ℕ → Step
step_in i kind a b = record { van = i; kind = kind; first = a; second = b }

pub said_in : (i kind a b : ℕ) → kind < van_weight → step_said (in_van_word i kind) a b ≡ step_in i kind a b
said_in i kind a b l = λ u. record { van = word-van i kind l u; kind = word-kind i kind l u; first = a; second = b }

-- what the vans did in an accepted step of that kind
moved_in : (sheet : List ℕ) (f : Fleet) (t : List ℕ) (i kind a b : ℕ) {k : ℕ} {f' : Fleet} {t' : List ℕ} → kind < van_weight → HeldAll f → Took sheet f t (in_van_word i kind) a b k f' t'
    → MovedAll (van_of sheet) (day_of sheet) (vans_of sheet) f t (step_in i kind a b) k f' t'
moved_in sheet f t i kind a b {k} {f'} {t'} l held e =
    subst (λ (s : Step). MovedAll (van_of sheet) (day_of sheet) (vans_of sheet) f t s k f' t') (said_in i kind a b l) (moved sheet f t (in_van_word i kind) a b held e).0

-- a step of one van, not placing: that van's step, and the others stay
alone-in : {vans : ℕ → Van} {d : Day} {v : ℕ} {f : Fleet} {t : List ℕ} {k : ℕ} {f' : Fleet} {t' : List ℕ} (i kind a b : ℕ)
    → eqb kind kinds.PLACE ≡ false → eqb kind kinds.LEVEL ≡ false → eqb kind kinds.BACK ≡ false → eqb kind kinds.OBLIGE ≡ false
    → MovedAll vans d v f t (step_in i kind a b) k f' t'
    → (i < v) × (act_of (vans i) d (state_in f i) (trail_in v t i) kind a b ≡ acted 0 k (state_in f' i) (trail_in v t' i)) × OthersStay v i f t f' t'
alone-in i kind a b p l q o (placed e z h s c turn) = absurd (eqb-false kind kinds.PLACE p e)
alone-in i kind a b p l q o (alone e n h did others) = (h, did, others)
alone-in i kind a b p l q o (level e z go) = absurd (eqb-false kind kinds.LEVEL l e)
alone-in i kind a b p l q o (back e z go h) = absurd (eqb-false kind kinds.BACK q e)
alone-in i kind a b p l q o (obliged e z go others) = absurd (eqb-false kind kinds.OBLIGE o e)

-- van i's part of an accepted step, as the trail has it; no other van changes
pub record InVan (sheet : List ℕ) (f : Fleet) (t : List ℕ) (i k : ℕ) (f' : Fleet) (t' : List ℕ) (ran : Ran) : Type 0 where
  pub van : i < vans_of sheet
  pub called : Called sheet (state_in f i) (trail_in (vans_of sheet) t i)
  pub did : ran ≡ acted 0 k (state_in f' i) (trail_in (vans_of sheet) t' i)
  pub others : OthersStay (vans_of sheet) i f t f' t'

module _ (sheet : List ℕ) (f : Fleet) (t : List ℕ) {k : ℕ} {f' : Fleet} {t' : List ℕ} (held : HeldAll f) where
  in-van : (i kind a b : ℕ) → kind < van_weight → eqb kind kinds.PLACE ≡ false → eqb kind kinds.LEVEL ≡ false → eqb kind kinds.BACK ≡ false → eqb kind kinds.OBLIGE ≡ false
      → Took sheet f t (in_van_word i kind) a b k f' t'
      → InVan sheet f t i k f' t' (act_of (van_of sheet i) (day_of sheet) (state_in f i) (trail_in (vans_of sheet) t i) kind a b)
  in-van i kind a b l p q r o e =
      let u = acting sheet f t (in_van_word i kind) a b e in
      let m = alone-in i kind a b p q r o (moved_in sheet f t i kind a b l held e) in
      record { van = m.0; called = van-called sheet f t u.0 u.1 i m.0; did = m.1; others = m.2 }

  pub closing : (i p x : ℕ) → Took sheet f t (in_van_word i kinds.CLOSE) p x k f' t'
      → InVan sheet f t i k f' t' (trail.close_step (n_of sheet) (state_in f i) (trail_in (vans_of sheet) t i) p x)
  unfolding act_of
  closing i p x e = in-van i kinds.CLOSE p x (omega arith) refl refl refl refl e

  pub excluding : (i x b : ℕ) → Took sheet f t (in_van_word i kinds.EXCLUDE) x b k f' t'
      → InVan sheet f t i k f' t' (trail.exclude_step (n_of sheet) (state_in f i) (trail_in (vans_of sheet) t i) (owed_of (day_of sheet) (state_in f i) x) x)
  unfolding act_of
  excluding i x b e = in-van i kinds.EXCLUDE x b (omega arith) refl refl refl refl e

  pub requiring : (i x b : ℕ) → Took sheet f t (in_van_word i kinds.REQUIRE) x b k f' t'
      → InVan sheet f t i k f' t' (trail.require_step (n_of sheet) (state_in f i) (trail_in (vans_of sheet) t i) x)
  unfolding act_of
  requiring i x b e = in-van i kinds.REQUIRE x b (omega arith) refl refl refl refl e

  pub settles : (i a b : ℕ) → Took sheet f t (in_van_word i kinds.SETTLE) a b k f' t'
      → InVan sheet f t i k f' t' (trail.settle_step (state_in f i) (trail_in (vans_of sheet) t i)
      (settling_rounds (van_of sheet i) (day_of sheet) (state_in f i)) (settled_sets (van_of sheet i) (day_of sheet) (state_in f i)))
  unfolding act_of
  settles i a b e = in-van i kinds.SETTLE a b (omega arith) refl refl refl refl e

  -- the plan after settling, and its rounds
  pub settling-plan : (i a b : ℕ) → Took sheet f t (in_van_word i kinds.SETTLE) a b k f' t'
      → (plan_at f' i ≡ settled (van_of sheet i) (day_of sheet) (plan_at f i)) × (k ≡ rounds (van_of sheet i) (day_of sheet) (plan_at f i).route (plan_at f i).places)
  settling-plan i a b e =
      let u = settles i a b e in
      settled-plan sheet (state_in f i) (trail_in (vans_of sheet) t i) (held.each i (omega (arith, u.van, u.called.fine.vans-high))) u.called (van_of sheet i) u.did

-- ---- placing: van i's placing, and in each other van an exclusion

pub record Placing (sheet : List ℕ) (f : Fleet) (t : List ℕ) (i p x k : ℕ) (f' : Fleet) (t' : List ℕ) : Type 0 where
  pub van : i < vans_of sheet
  pub called : (j : ℕ) → j < vans_of sheet → Called sheet (state_in f j) (trail_in (vans_of sheet) t j)
  pub none : k ≡ 0
  pub shut : place_shut (n_of sheet) (board_in f i) p x ≡ 0
  pub free : claimed (day_of sheet) (vans_of sheet) f i x ≡ false
  pub here : trail.place_step (n_of sheet) (state_in f i) (trail_in (vans_of sheet) t i) p x ≡ acted 0 0 (state_in f' i) (trail_in (vans_of sheet) t' i)
  pub there : (j : ℕ) → j < vans_of sheet → j ≢ i
      → trail.exclude_step (n_of sheet) (state_in f j) (trail_in (vans_of sheet) t j) false x ≡ acted 0 0 (state_in f' j) (trail_in (vans_of sheet) t' j)

turn-here : (n i p x : ℕ) (s : State) (t : List ℕ) → turn_of n (step_in i kinds.PLACE p x) i s t ≡ trail.place_step n s t p x
unfolding turn_of
turn-here n i p x s t = rw (eq-eqb i i refl) refl

turn-there : (n i p x j : ℕ) (s : State) (t : List ℕ) → j ≢ i → turn_of n (step_in i kinds.PLACE p x) j s t ≡ trail.exclude_step n s t false x
unfolding turn_of
turn-there n i p x j s t ne = rw (ne_eqb j i ne) refl

placing-in : {sheet : List ℕ} {f : Fleet} {t : List ℕ} {k : ℕ} {f' : Fleet} {t' : List ℕ} (i p x : ℕ)
    → ((j : ℕ) → j < vans_of sheet → Called sheet (state_in f j) (trail_in (vans_of sheet) t j))
    → MovedAll (van_of sheet) (day_of sheet) (vans_of sheet) f t (step_in i kinds.PLACE p x) k f' t' → Placing sheet f t i p x k f' t'
placing-in {sheet} {f} {t} i p x called (placed e z l shut free turn) = record {
  van = l;
  called = called;
  none = z;
  shut = shut;
  free = free;
  here = sym (turn-here (n_of sheet) i p x (state_in f i) (trail_in (vans_of sheet) t i)) ∙ turn i l;
  there = λ j h ne. sym (turn-there (n_of sheet) i p x j (state_in f j) (trail_in (vans_of sheet) t j) ne) ∙ turn j h;
}
placing-in i p x called (alone e n l did others) = absurd (n refl)
placing-in i p x called (level e z go) = absurd (eqb-false kinds.PLACE kinds.LEVEL refl e)
placing-in i p x called (back e z go h) = absurd (eqb-false kinds.PLACE kinds.BACK refl e)
placing-in i p x called (obliged e z go others) = absurd (eqb-false kinds.PLACE kinds.OBLIGE refl e)

pub placing : (sheet : List ℕ) (f : Fleet) (t : List ℕ) {k : ℕ} {f' : Fleet} {t' : List ℕ} → HeldAll f → (i p x : ℕ) → Took sheet f t (in_van_word i kinds.PLACE) p x k f' t'
    → Placing sheet f t i p x k f' t'
placing sheet f t held i p x e =
    let u = acting sheet f t (in_van_word i kinds.PLACE) p x e in
    placing-in i p x (van-called sheet f t u.0 u.1) (moved_in sheet f t i kinds.PLACE p x (omega arith) held e)

-- ---- steps 6, 7 and 8, whatever the van

-- step 8: the first van's
pub obliging : (sheet : List ℕ) (f : Fleet) (t : List ℕ) {k : ℕ} {f' : Fleet} {t' : List ℕ} → HeldAll f → (i x b : ℕ) → Took sheet f t (in_van_word i kinds.OBLIGE) x b k f' t'
    → (k ≡ 0) × InVan sheet f t 0 0 f' t' (trail.oblige_step (n_of sheet) (state_in f 0) (trail_in (vans_of sheet) t 0) x)
obliging sheet f t {k} {f'} {t'} held i x b e = go (moved_in sheet f t i kinds.OBLIGE x b (omega arith) held e)
  where
    u : (call_refusal sheet ≡ 0) × (form_with_all (n_of sheet) (vans_of sheet) f t ≡ true)
        × (act_all (van_of sheet) (day_of sheet) (vans_of sheet) f t (step_said (in_van_word i kinds.OBLIGE) x b) ≡ acted_all 0 k f' t')
    u = acting sheet f t (in_van_word i kinds.OBLIGE) x b e

    go : MovedAll (van_of sheet) (day_of sheet) (vans_of sheet) f t (step_in i kinds.OBLIGE x b) k f' t'
        → (k ≡ 0) × InVan sheet f t 0 0 f' t' (trail.oblige_step (n_of sheet) (state_in f 0) (trail_in (vans_of sheet) t 0) x)
    go (placed q z h s c turn) = absurd (eqb-false kinds.OBLIGE kinds.PLACE refl q)
    go (alone q n h did others) = absurd (eqb-false 0 1 refl (ap (λ (c : Bool). cond c 1 0) q))
    go (level q z to) = absurd (eqb-false kinds.OBLIGE kinds.LEVEL refl q)
    go (back q z to h) = absurd (eqb-false kinds.OBLIGE kinds.BACK refl q)
    go (obliged q z did others) = (z, record { van = (call-fine sheet u.0).vans-low; called = van-called sheet f t u.0 u.1 0 (call-fine sheet u.0).vans-low; did = did; others = others })

-- step 6: every van opens a level
pub levelling : (sheet : List ℕ) (f : Fleet) (t : List ℕ) {k : ℕ} {f' : Fleet} {t' : List ℕ} → HeldAll f → (i a b : ℕ) → Took sheet f t (in_van_word i kinds.LEVEL) a b k f' t'
    → (k ≡ 0) × ((j : ℕ) → j < vans_of sheet → trail.level_step (state_in f j) (trail_in (vans_of sheet) t j) ≡ acted 0 0 (state_in f' j) (trail_in (vans_of sheet) t' j))
levelling sheet f t {k} {f'} {t'} held i a b e = go (moved_in sheet f t i kinds.LEVEL a b (omega arith) held e)
  where
    go : MovedAll (van_of sheet) (day_of sheet) (vans_of sheet) f t (step_in i kinds.LEVEL a b) k f' t'
        → (k ≡ 0) × ((j : ℕ) → j < vans_of sheet → trail.level_step (state_in f j) (trail_in (vans_of sheet) t j) ≡ acted 0 0 (state_in f' j) (trail_in (vans_of sheet) t' j))
    go (placed q z h s c turn) = absurd (eqb-false kinds.LEVEL kinds.PLACE refl q)
    go (alone q n h did others) = absurd (eqb-false 0 1 refl (ap (λ (c : Bool). cond c 1 0) q))
    go (level q z to) = (z, to)
    go (back q z to h) = absurd (eqb-false kinds.LEVEL kinds.BACK refl q)
    go (obliged q z did others) = absurd (eqb-false kinds.LEVEL kinds.OBLIGE refl q)

-- ---- one van's part in any accepted step: an accepted step of the trail, or nothing

-- van j's state and its part of the trail are as before
abbrev pub Stays : ℕ → Fleet → List ℕ → Fleet → List ℕ → ℕ → Type 0
Stays v f t f' t' j = (state_in f' j ≡ state_in f j) × (trail_in v t' j ≡ trail_in v t j)

-- van j's part
abbrev pub Goes : ℕ → ℕ → Fleet → List ℕ → Fleet → List ℕ → ℕ → Type 0
Goes n v f t f' t' j = run.Move n (state_in f j) (trail_in v t j) (state_in f' j) (trail_in v t' j) ⊎ Stays v f t f' t' j

turn-moves : (n : ℕ) (step : Step) (j : ℕ) (s : State) (t : List ℕ) (s' : State) (t' : List ℕ) → step.kind ≡ kinds.PLACE → turn_of n step j s t ≡ acted 0 0 s' t' → run.Move n s t s' t'
unfolding turn_of
turn-moves n step j s t s' t' q e =
    let p : cond (eqb j step.van) (trail.place_step n s t step.first step.second) (trail.exclude_step n s t false step.second) ≡ acted 0 0 s' t' =
    rw (eq-eqb step.kind kinds.PLACE q) at e in
    decided (eqb j step.van) (λ y. run.place step.first step.second (rw y at p)) (λ y. run.exclude false step.second (rw y at p))

pub van-goes : (sheet : List ℕ) (f : Fleet) (t : List ℕ) (word a b : ℕ) {k : ℕ} {f' : Fleet} {t' : List ℕ} → HeldAll f → Took sheet f t word a b k f' t'
    → (j : ℕ) → j < vans_of sheet → Goes (n_of sheet) (vans_of sheet) f t f' t' j
van-goes sheet f t word a b {k} {f'} {t'} held e j l = go (moved sheet f t word a b held e).0
  where
    called : Called sheet (state_in f j) (trail_in (vans_of sheet) t j)
    called = let u = acting sheet f t word a b e in van-called sheet f t u.0 u.1 j l

    go : MovedAll (van_of sheet) (day_of sheet) (vans_of sheet) f t (step_said word a b) k f' t' → Goes (n_of sheet) (vans_of sheet) f t f' t' j
    go (placed q z h s c turn) = inl (turn-moves (n_of sheet) (step_said word a b) j (state_in f j) (trail_in (vans_of sheet) t j) (state_in f' j) (trail_in (vans_of sheet) t' j) q (turn j l))
    go (alone q n h did others) = decided (eqb j (step_said word a b).van)
        (λ y. let w = eqb-true j (step_said word a b).van y in
        inl (act-moves (van_of sheet j) sheet (state_in f j) (trail_in (vans_of sheet) t j) (step_said word a b).kind a b (held.each j (omega (arith, l, called.fine.vans-high))) called k _ _
        (rw (sym w) at did)))
        (λ y. let w = eqb-false j (step_said word a b).van y in inr (others.state j l w, others.trail j l w))
    go (level q z to) = inl (run.level (to j l))
    go (back q z to h) = inl (run.back (to j l))
    go (obliged q z did others) = decided (eqb j 0)
        (λ y. let w = eqb-true j 0 y in inl (run.oblige a
        (subst (λ (m : ℕ). trail.oblige_step (n_of sheet) (state_in f m) (trail_in (vans_of sheet) t m) a ≡ acted 0 0 (state_in f' m) (trail_in (vans_of sheet) t' m)) (sym w) did)))
        (λ y. let w = eqb-false j 0 y in inr (others.state j l w, others.trail j l w))

-- ---- refused: fleet and trail as before, rounds 0

pub unchanged : Unchanged
unchanged sheet f t word a b left =
    decided (eqb (step_refusal sheet f t) 0)
    (λ q. let e = call-yes sheet f t word a b (eqb-true (step_refusal sheet f t) 0 q) in
    rw e (act-all-leaves (van_of sheet) (day_of sheet) (vans_of sheet) f t (step_said word a b) (rw e at left)))
    (λ q. let e = call-no sheet f t word a b (eqb-false (step_refusal sheet f t) 0 q) in rw e refl)
