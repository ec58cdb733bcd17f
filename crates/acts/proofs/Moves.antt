-- An accepted step of a fleet in form, van by van; and a refused one, which changes nothing.
use mathlib.Core.Path.{◌≡◌, refl, sym, ap, subst, ◌∙◌}
use mathlib.Core.Bool.{Bool, true, false, cond, not}
use mathlib.Core.List.{List}
use mathlib.Core.Logic.{◌≢◌}
use Prim.Native.Nat.{ℕ, ◌≤◌, ◌<◌}
use native.Mathlib.Omega.{arith}
use lib.ListN.{length}
use lib.Dec.{eqb, ltb}
use borrow.Author.Tests.{eqb-true, eqb-false, ltb-true, ltb-false, lt-ltb, ne_eqb, eq-eqb}
use Rattle.laws.specs.Basic.{all_below, or_else, unless}
use Rattle.laws.proofs.Logic.{decided, and-true}
use Rattle.laws.proofs.Below.{below_at}
use Rattle.laws.proofs.Choice.{or-else-zero, passed}
use Rattle.bits.specs.Places.{has}
use Rattle.rules.specs.Numbers.{refusal, kinds, most_vans}
use Rattle.rules.specs.Day.{Day}
use Rattle.rules.specs.declared.Van.{Van}
use Rattle.rules.specs.declared.Step.{Step}
use Rattle.board.specs.Board.{board_of, set_of}
use Rattle.board.specs.declared.State.{State}
use Rattle.records.specs.Trail.{room_of}
use Rattle.trail.specs.Refusals.{place_refusal, exclude_refusal}
use Rattle.trail.specs.Steps.{Ran, acted, unless_refused, recorded, place_step, close_step, exclude_step, require_step, settle_step, level_step, undo_level, back_step, oblige_step}
use Rattle.records.proofs.TrailLaws.{pushed_long, note-all}
use Rattle.van.specs.Act.{act_of, owed_of, settled_sets}
use Rattle.van.proofs.Leaves.{either}
use Rattle.fleet.specs.Fleet.{state_in, trail_in}
use Rattle.fleet.specs.Form.{shares_none, form_with_all}
use Rattle.fleet.specs.declared.Fleet.{Fleet}
use Rattle.fleet.proofs.FleetLaws.{part-long}
use Rattle.turns.specs.Together.{RanAll, acted_all, unless_barred, together}
use Rattle.turns.specs.Turn.{turn_of, turns_of, turn_bar}
use Rattle.bars.specs.Bars.{place_bar}
use Rattle.acts.specs.Act.{level_bar, back_bar, of_one_van, van_act, act_all}
use Rattle.acts.specs.Moved.{OthersStay, RestStays, MovedAll, placed, alone as one, level, back, obliged}
use Rattle.turns.proofs.TogetherLaws.{Reads, together-reads, accepted-all, bar-leaves, Others, alone-reads, alone-leaves}
use Rattle.turns.proofs.EachLaws.{turn_in}
use Rattle.acts.proofs.KnownLaws.{bar-free, free-turns, form-depth}
use Rattle.acts.proofs.ActLaws.{van-out, van-place, van-alone, act-level, act-back, act-oblige, act-van, act-unknown, back-trail}

-- ---- a van's step keeps the length of its trail

abbrev Long : List ℕ → Ran → Type 0
Long t r = length r.1 ≡ length t

unless-long : (c : ℕ) (s : State) (t : List ℕ) (ran : Ran) → Long t ran → Long t (unless_refused c s t ran)
unfolding unless_refused
unless-long c s t ran h = either (Long t) (eqb c 0) h refl

place-long : (n : ℕ) (s : State) (t : List ℕ) (p x : ℕ) → Long t (place_step n s t p x)
unfolding place_step recorded
place-long n s t p x = unless-long _ s t _ (pushed_long t _ _ _)

exclude-long : (n : ℕ) (s : State) (t : List ℕ) (owed : Bool) (x : ℕ) → Long t (exclude_step n s t owed x)
unfolding exclude_step recorded
exclude-long n s t owed x = unless-long _ s t _ (either (Long t) (eqb (set_of (board_of s) x) 0) refl (pushed_long t _ _ _))

level-long : (s : State) (t : List ℕ) → Long t (level_step s t)
unfolding level_step
level-long s t = unless-long _ s t _ refl

pub oblige-long : (n : ℕ) (s : State) (t : List ℕ) (x : ℕ) → Long t (oblige_step n s t x)
unfolding oblige_step recorded
oblige-long n s t x = unless-long _ s t _ (either (Long t) (has s.must x) refl (pushed_long t _ _ _))

pub act-long : (v : Van) (d : Day) (s : State) (t : List ℕ) (kind a b : ℕ) → Long t (act_of v d s t kind a b)
unfolding act_of close_step require_step settle_step recorded
act-long v d s t kind a b =
    either (Long t) (eqb kind kinds.PLACE) (place-long d.n s t a b)
    (either (Long t) (eqb kind kinds.CLOSE) (unless-long _ s t _ (pushed_long t _ _ _))
    (either (Long t) (eqb kind kinds.EXCLUDE) (exclude-long d.n s t (owed_of d s a) a)
    (either (Long t) (eqb kind kinds.REQUIRE) (unless-long _ s t _ (either (Long t) (has s.marks a) refl (pushed_long t _ _ _)))
    (either (Long t) (eqb kind kinds.SETTLE) (unless-long _ s t _ (note-all s.sets (settled_sets v d s) 64 s.records t).1)
    (either (Long t) (eqb kind kinds.LEVEL) (level-long s t)
    (either (Long t) (eqb kind kinds.BACK) (ap length (back-trail d.n s t)) refl))))))

pub turn-long : (n : ℕ) (step : Step) (j : ℕ) (s : State) (t : List ℕ) → Long t (turn_of n step j s t)
unfolding turn_of
turn-long n step j s t =
    either (Long t) (eqb step.kind kinds.PLACE)
    (either (Long t) (eqb j step.van) (place-long n s t step.first step.second) (exclude-long n s t false step.second))
    (either (Long t) (eqb step.kind kinds.LEVEL) (level-long s t) (ap length (back-trail n s t)))

-- ---- a turn that is not refused is accepted, with no round

abbrev Took : Ran → Type 0
Took r = (r.0.answer ≡ 0) × (r.0.rounds ≡ 0)

place-took : (n : ℕ) (s : State) (t : List ℕ) (p x : ℕ) → place_refusal n (board_of s) s.records (room_of t) p x ≡ 0 → Took (place_step n s t p x)
unfolding place_step unless_refused recorded
place-took n s t p x z = rw z (refl, refl)

exclude-took : (n : ℕ) (s : State) (t : List ℕ) (owed : Bool) (x : ℕ) → exclude_refusal n (board_of s) s.records (room_of t) owed x ≡ 0 → Took (exclude_step n s t owed x)
unfolding exclude_step unless_refused recorded
exclude-took n s t owed x z = rw z (either Took (eqb (set_of (board_of s) x) 0) (refl, refl) (refl, refl))

level-took : (s : State) (t : List ℕ) → s.depth < 64 → Took (level_step s t)
unfolding level_step unless_refused
level-took s t h = rw (lt-ltb s.depth 64 h) (refl, refl)

back-took : (n : ℕ) (s : State) (t : List ℕ) → 0 < s.depth → (undo_level n s t).0 ≡ true → Took (back_step n s t)
unfolding back_step unless_refused or_else
back-took n s t h e = rw (lt-ltb 0 s.depth h, e) (refl, refl)

abbrev NoRound : Ran → Type 0
NoRound r = r.0.rounds ≡ 0

unless-rounds : (c : ℕ) (s : State) (t : List ℕ) (ran : Ran) → NoRound ran → NoRound (unless_refused c s t ran)
unfolding unless_refused
unless-rounds c s t ran h = either NoRound (eqb c 0) h refl

oblige-rounds : (n : ℕ) (s : State) (t : List ℕ) (x : ℕ) → NoRound (oblige_step n s t x)
unfolding oblige_step recorded
oblige-rounds n s t x = unless-rounds _ s t _ (either NoRound (has s.must x) refl refl)

-- which turn it is
turn-own : (n : ℕ) (step : Step) (j : ℕ) (s : State) (t : List ℕ) → step.kind ≡ kinds.PLACE → turn_bar n step j s t ≡ 0 → Took (turn_of n step j s t)
unfolding turn_of
turn-own n step j s t k z =
    rw (eq-eqb step.kind kinds.PLACE k)
    (decided (eqb j step.van)
    (λ e. rw e (place-took n s t step.first step.second (rw e at z)))
    (λ e. rw e (exclude-took n s t false step.second (rw e at z))))

pub turn_level : (n : ℕ) (step : Step) (j : ℕ) (s : State) (t : List ℕ) → step.kind ≡ kinds.LEVEL → turn_of n step j s t ≡ level_step s t
unfolding turn_of
turn_level n step j s t k = rw (ne_eqb step.kind kinds.PLACE (λ z. omega (arith, k, z)), eq-eqb step.kind kinds.LEVEL k) refl

pub turn-back : (n : ℕ) (step : Step) (j : ℕ) (s : State) (t : List ℕ) → step.kind ≡ kinds.BACK → turn_of n step j s t ≡ back_step n s t
unfolding turn_of
turn-back n step j s t k = rw (ne_eqb step.kind kinds.PLACE (λ z. omega (arith, k, z)), ne_eqb step.kind kinds.LEVEL (λ z. omega (arith, k, z))) refl

-- ---- what the step's fleet and trail hold

module _ (n v : ℕ) (f : Fleet) (t : List ℕ) (step : Step) {k : ℕ} {f' : Fleet} {t' : List ℕ} (most : v ≤ most_vans) (e : turns_of n v f t step ≡ acted_all 0 k f' t') where
  pub turns-read : (0 ≡ k) × Reads v f t (turn_in n v step f t) f' t'
  turns-read = together-reads v f t 0 (turn_in n v step f t) most (λ j h. turn-long n step j (state_in f j) (trail_in v t j) ∙ part-long v t j h) e

  -- a turn that is accepted, with no round
  turn_is : (j : ℕ) → j < v → Took (turn_in n v step f t j) → turn_in n v step f t j ≡ acted 0 0 (state_in f' j) (trail_in v t' j)
  turn_is j h took = λ i. (record { answer = took.0 i; rounds = took.1 i; state = sym (turns-read.1.states j h) i }, sym (turns-read.1.trails j h) i)

  turns-rest : RestStays v f t f' t'
  turns-rest = record { eight = turns-read.1.eight; beyond = turns-read.1.spare; long = turns-read.1.long }

others-stay : {v i : ℕ} {f : Fleet} {t : List ℕ} {f' : Fleet} {t' : List ℕ} → v ≤ most_vans → Others v f t i f' t' → OthersStay v i f t f' t'
others-stay most o = record { state = λ j h d. o.states j d (omega arith); trail = λ j h d. o.trails j d h }

others-rest : {v i : ℕ} {f : Fleet} {t : List ℕ} {f' : Fleet} {t' : List ℕ} → i < v → Others v f t i f' t' → RestStays v f t f' t'
others-rest low o = record { eight = o.eight; beyond = λ j h m. o.states j (λ z. omega arith) m; long = o.long }

-- ---- the step of each kind, accepted

module _ (vans : ℕ → Van) (d : Day) (v : ℕ) (f : Fleet) (t : List ℕ) (step : Step) (some : 1 ≤ v) (most : v ≤ most_vans) (small : d.n ≤ 64)
    (form : form_with_all d.n v f t ≡ true) (k : ℕ) (f' : Fleet) (t' : List ℕ) where
  abbrev Moved : Type 0
  Moved = MovedAll vans d v f t step k f' t' × RestStays v f t f' t'

  place-moves : step.van < v → step.kind ≡ kinds.PLACE → van_act vans d v f t step ≡ acted_all 0 k f' t' → Moved
  place-moves low kind e =
      let a = accepted-all (place_bar d v f t step.van step.first step.second) f t (turns_of d.n v f t step) (sym (van-place vans d v f t step low kind) ∙ e) in
      let u = bar-free d v f t step.van step.first step.second a.0 in (
        placed kind (sym (turns-read d.n v f t step most a.1).0) low u.shut u.free
            (λ j h. turn_is d.n v f t step most a.1 j h
            (turn-own d.n step j (state_in f j) (trail_in v t j) kind (free-turns d.n v f t small form step low d refl u j h))),
        turns-rest d.n v f t step most a.1,
      )

  alone-moves : of_one_van step.kind ≡ true → step.van < v → step.kind ≢ kinds.PLACE → van_act vans d v f t step ≡ acted_all 0 k f' t' → Moved
  alone-moves kind low other e =
      let a = alone-reads v f t step.van (λ s u. act_of (vans step.van) d s u step.kind step.first step.second) low most
      (act-long (vans step.van) d (state_in f step.van) (trail_in v t step.van) step.kind step.first step.second ∙ part-long v t step.van low)
      (sym (van-alone vans d v f t step low other) ∙ e) in
      (one kind other low a.did (others-stay most a.others), others-rest low a.others)

  van-moves : of_one_van step.kind ≡ true → van_act vans d v f t step ≡ acted_all 0 k f' t' → Moved
  van-moves kind e =
      decided (ltb step.van v)
      (λ l. decided (eqb step.kind kinds.PLACE)
      (λ p. place-moves (ltb-true step.van v l) (eqb-true step.kind kinds.PLACE p) e)
      (λ p. alone-moves kind (ltb-true step.van v l) (eqb-false step.kind kinds.PLACE p) e))
      (λ l. absurd (eqb-false refusal.VAN 0 refl (ap (λ (r : RanAll). r.0.answer) (sym (van-out vans d v f t step (ltb-false step.van v l)) ∙ e))))

  level-moves : step.kind ≡ kinds.LEVEL → act_all vans d v f t step ≡ acted_all 0 k f' t' → Moved
  unfolding level_bar
  level-moves kind e =
      let a = accepted-all (level_bar f) f t (turns_of d.n v f t step) (sym (act-level vans d v f t step kind) ∙ e) in
      let deep = ltb-true (state_in f 0).depth 64 (passed (ltb (state_in f 0).depth 64) refusal.DEPTH refl a.0) in (
        level kind (sym (turns-read d.n v f t step most a.1).0)
            (λ j h. let q = turn_level d.n step j (state_in f j) (trail_in v t j) kind in
            sym q ∙ turn_is d.n v f t step most a.1 j h
            (subst Took (sym q) (level-took (state_in f j) (trail_in v t j) (omega (arith, deep, form-depth d.n v f t form most j h))))),
        turns-rest d.n v f t step most a.1,
      )

  back-moves : step.kind ≡ kinds.BACK → act_all vans d v f t step ≡ acted_all 0 k f' t' → Moved
  unfolding back_bar
  back-moves kind e =
      let a = accepted-all (back_bar d.n v f t (turns_of d.n v f t step).0.fleet) f t (turns_of d.n v f t step) (sym (act-back vans d v f t step kind) ∙ e) in
      let b = or-else-zero (unless (ltb 0 (state_in f 0).depth) refusal.DEPTH) _ a.0 in
      let deep = ltb-true 0 (state_in f 0).depth (passed (ltb 0 (state_in f 0).depth) refusal.DEPTH refl b.0) in
      let c = and-true (all_below v (λ j. (undo_level d.n (state_in f j) (trail_in v t j)).0)) _ (passed _ refusal.MISFIT refl b.1) in (
        back kind (sym (turns-read d.n v f t step most a.1).0)
            (λ j h. let q = turn-back d.n step j (state_in f j) (trail_in v t j) kind in
            sym q ∙ turn_is d.n v f t step most a.1 j h
            (subst Took (sym q) (back-took d.n (state_in f j) (trail_in v t j) (omega (arith, deep, form-depth d.n v f t form most j h))
            (below_at v j (λ j. (undo_level d.n (state_in f j) (trail_in v t j)).0) c.0 h))))
            (ap (λ (r : RanAll). shares_none d.n v r.0.fleet) (sym a.1) ∙ c.1),
        turns-rest d.n v f t step most a.1,
      )

  oblige-moves : step.kind ≡ kinds.OBLIGE → act_all vans d v f t step ≡ acted_all 0 k f' t' → Moved
  oblige-moves kind e =
      let a = alone-reads v f t 0 (λ s u. oblige_step d.n s u step.first) some most
      (oblige-long d.n (state_in f 0) (trail_in v t 0) step.first ∙ part-long v t 0 some) (sym (act-oblige vans d v f t step kind) ∙ e) in
      let none : k ≡ 0 = sym (ap (λ (r : Ran). r.0.rounds) a.did) ∙ oblige-rounds d.n (state_in f 0) (trail_in v t 0) step.first in (
        obliged kind none (a.did ∙ ap (λ (m : ℕ). acted 0 m (state_in f' 0) (trail_in v t' 0)) none) (others-stay most a.others),
        others-rest some a.others,
      )

  all-moves : act_all vans d v f t step ≡ acted_all 0 k f' t' → Moved
  all-moves e =
      decided (eqb step.kind kinds.LEVEL) (λ l. level-moves (eqb-true step.kind kinds.LEVEL l) e)
      (λ l. decided (eqb step.kind kinds.BACK) (λ b. back-moves (eqb-true step.kind kinds.BACK b) e)
      (λ b. decided (eqb step.kind kinds.OBLIGE) (λ o. oblige-moves (eqb-true step.kind kinds.OBLIGE o) e)
      (λ o.
      let nl = eqb-false step.kind kinds.LEVEL l in
      let nb = eqb-false step.kind kinds.BACK b in
      let no = eqb-false step.kind kinds.OBLIGE o in
      decided (of_one_van step.kind)
      (λ w. van-moves w (sym (act-van vans d v f t step nl nb no w) ∙ e))
      (λ w. absurd (eqb-false refusal.KIND 0 refl (ap (λ (r : RanAll). r.0.answer) (sym (act-unknown vans d v f t step nl nb no w) ∙ e)))))))

-- what each van did
pub act-all-moves : (vans : ℕ → Van) (d : Day) (v : ℕ) (f : Fleet) (t : List ℕ) (step : Step) {k : ℕ} {f' : Fleet} {t' : List ℕ} → 1 ≤ v → v ≤ most_vans → d.n ≤ 64
    → form_with_all d.n v f t ≡ true → act_all vans d v f t step ≡ acted_all 0 k f' t' → MovedAll vans d v f t step k f' t' × RestStays v f t f' t'
act-all-moves vans d v f t step {k} {f'} {t'} some most small form e = all-moves vans d v f t step some most small form k f' t' e

-- ---- refused: nothing changes

abbrev LeavesAll : Fleet → List ℕ → RanAll → Type 0
LeavesAll f t r = (r.0.answer ≡ 0 → ⊥) → r ≡ acted_all r.0.answer 0 f t

choose : (P : RanAll → Type 0) (b : Bool) {x y : RanAll} → P x → P y → P (cond b x y)
choose P true p q = p
choose P false p q = q

turns-leave : (n v : ℕ) (f : Fleet) (t : List ℕ) (step : Step) (number : ℕ) → LeavesAll f t (unless_barred number f t (turns_of n v f t step))
unfolding together
turns-leave n v f t step number = bar-leaves number f t (turns_of n v f t step) refl

pub act-all-leaves : (vans : ℕ → Van) (d : Day) (v : ℕ) (f : Fleet) (t : List ℕ) (step : Step) → ((act_all vans d v f t step).0.answer ≡ 0 → ⊥)
    → act_all vans d v f t step ≡ acted_all (act_all vans d v f t step).0.answer 0 f t
unfolding act_all van_act
act-all-leaves vans d v f t step =
    choose (LeavesAll f t) (eqb step.kind kinds.LEVEL) (turns-leave d.n v f t step _)
    (choose (LeavesAll f t) (eqb step.kind kinds.BACK) (turns-leave d.n v f t step _)
    (choose (LeavesAll f t) (eqb step.kind kinds.OBLIGE) (alone-leaves v f t 0 (λ s u. oblige_step d.n s u step.first))
    (choose (LeavesAll f t) (of_one_van step.kind)
    (choose (LeavesAll f t) (not (ltb step.van v)) (λ n. refl)
    (choose (LeavesAll f t) (eqb step.kind kinds.PLACE) (turns-leave d.n v f t step _)
    (alone-leaves v f t step.van (λ s u. act_of (vans step.van) d s u step.kind step.first step.second))))
    (λ n. refl))))
