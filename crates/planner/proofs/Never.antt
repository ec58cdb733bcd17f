-- From a fresh fleet no step is refused by 20; and with room for (n + 1)(n − 2) records in each part of the trail none by 17 or 19.
use Prim.Native.Nat.{ℕ, zero, suc, ◌+◌, ◌-◌, ◌*◌, ◌/◌, ◌%◌, ◌≤◌, ◌<◌}
use mathlib.Core.Path.{◌≡◌, refl, sym, ap, subst, ◌∙◌}
use mathlib.Core.Bool.{Bool, true, false, cond, not, ◌&&◌, ◌||◌}
use mathlib.Core.List.{List}
use native.Mathlib.Omega.{arith}
use lib.Dec.{eqb, leb, ltb}
use lib.ListN.{length}
use borrow.Author.Tests.{eqb-true, eqb-false, ne_eqb, leb-true, ltb-true, ltb-false}
use Rattle.laws.proofs.Logic.{decided, and-true, or-false}
use Rattle.laws.proofs.Below.{below-find}
use Rattle.laws.specs.Basic.{or_else, unless, all_below}
use Rattle.sheet.specs.Section.{n_of, vans_of}
use Rattle.day.specs.Refuse.{call_refusal}
use Rattle.day.proofs.RefuseLaws.{call-fine}
use Rattle.day.specs.Tell.{day_of, van_of, admitted}
use Rattle.bits.specs.Places.{has}
use Rattle.bits.proofs.Members.{false-true, within_none}
use Rattle.bits.proofs.Number.{members}
use Rattle.rules.specs.Day.{is_inner}
use Rattle.rules.proofs.Inner.{is-inner}
use Rattle.rules.specs.Numbers.{refusal, kinds, van_weight, step_said}
use Rattle.rules.specs.declared.Step.{Step}
use Rattle.board.specs.Board.{Board, board_of, set_of, open_at, on_route, leg_node}
use Rattle.board.specs.Held.{Held}
use Rattle.board.specs.Fresh.{fresh_state}
use Rattle.board.specs.declared.State.{State}
use Rattle.records.specs.Trail.{room_of, shrunk}
use Rattle.trail.specs.Refusals.{place_shut, place_refusal, exclude_refusal, require_refusal, oblige_refusal}
use Rattle.trail.specs.Steps.{Ran}
use Rattle.trail.specs.Steps as trail
use Rattle.trail.specs.Run as run
use Rattle.trail.proofs.StepLaws.{Free, step-yes, step-no, not-shut}
use Rattle.trail.proofs.Since.{changed-free}
use Rattle.trail.proofs.Bound.{one_more, space-full}
use Rattle.trail.proofs.Never.{place-roomy, exclude-roomy, require-roomy, settle-roomy, oblige-roomy-full}
use Rattle.van.specs.Act.{act_of, owed_of, settled_sets}
use Rattle.van.proofs.Leaves.{either, zero-both}
use Rattle.van.proofs.Moves.{settled-smaller}
use Rattle.fleet.specs.Fleet.{state_in, board_in, trail_in, share_of, HeldAll}
use Rattle.fleet.specs.Form.{shares_none, form_with_all}
use Rattle.fleet.specs.declared.Fleet.{Fleet}
use Rattle.fleet.proofs.FleetLaws.{room-part}
use Rattle.turns.specs.Together.{RanAll, unless_barred, together, alone}
use Rattle.acts.specs.Act.{act_all, van_act, level_bar, back_bar, of_one_van}
use Rattle.turns.specs.Turn.{turns_of}
use Rattle.bars.specs.Bars.{claimed, roomy, place_bar}
use Rattle.turns.proofs.TogetherLaws.{barred, unbarred}
use Rattle.planner.specs.Face.{fresh_of, step_of}
use Rattle.planner.specs.Promises.{Took, Steps, NeverShort, depth_of, in_van_word}
use Rattle.planner.specs.Promises as promises
use Rattle.planner.proofs.Answers.{call-made, call-yes, van-called}
use Rattle.acts.proofs.ActLaws.{act-back}
use Rattle.planner.proofs.Depths.{Shift, keeps, opens, drops}
use Rattle.planner.proofs.FreshFleet.{fresh-van}
use Rattle.planner.proofs.Courses.{word-said, took-shift, steps_back, reached-all, reached-held, van-runs}

-- ---- refusals that are not the number m

else-avoids : (a b m : ℕ) → (a ≡ m → ⊥) → (b ≡ m → ⊥) → or_else a b ≡ m → ⊥
unfolding or_else
else-avoids zero b m p q e = q e
else-avoids (suc a) b m p q e = p e

unless-avoids : (b : Bool) (k m : ℕ) → (0 ≡ m → ⊥) → (k ≡ m → ⊥) → unless b k ≡ m → ⊥
unless-avoids true k m z n e = z e
unless-avoids false k m z n e = n e

-- the first was passed, and the second is m
else-next : (a b m : ℕ) → (a ≡ m → ⊥) → or_else a b ≡ m → (a ≡ 0) × (b ≡ m)
unfolding or_else
else-next zero b m n e = (refl, e)
else-next (suc a) b m n e = absurd (n e)

-- the test of the number itself failed
unless-fails : (b : Bool) (k m : ℕ) → (0 ≡ m → ⊥) → unless b k ≡ m → b ≡ false
unless-fails true k m z e = absurd (z e)
unless-fails false k m z e = refl

-- placing's own refusals but the room's are below 17
shut-low : (m : ℕ) → refusal.SHUT < m → (n : ℕ) (b : Board) (p x : ℕ) → place_shut n b p x ≡ m → ⊥
unfolding place_shut
shut-low m high n b p x =
    else-avoids _ _ m (unless-avoids (is_inner n x && leg_node n p) refusal.NODE m (λ e. omega arith) (λ e. omega arith))
    (else-avoids _ _ m (unless-avoids (not (on_route b x)) refusal.PLACED m (λ e. omega arith) (λ e. omega arith))
    (else-avoids _ _ m (unless-avoids (on_route b p) refusal.UNPLACED m (λ e. omega arith) (λ e. omega arith))
    (unless-avoids (open_at b x p) refusal.SHUT m (λ e. omega arith) (λ e. omega arith))))

-- ---- the levels that are open were opened

-- the step that opened level e, and those since, which left it open
pub record Opened (sheet : List ℕ) (f : Fleet) (t : List ℕ) (e : ℕ) : Type 0 where
  pub before : Fleet
  pub after : Fleet
  pub was : List ℕ
  pub is : List ℕ
  pub van : ℕ
  pub first : ℕ
  pub second : ℕ
  pub rounds : ℕ
  pub held : HeldAll before
  pub took : Took sheet before was (in_van_word van kinds.LEVEL) first second rounds after is
  pub deep : depth_of after ≡ e + 1
  pub since : Steps sheet (depth_of after) after is f t

module _ (sheet : List ℕ) (t : List ℕ) (z : call_refusal sheet ≡ 0) where
  some-van : 0 < vans_of sheet
  some-van = omega (arith, (call-fine sheet z).vans-low)

  fresh-depth : depth_of (fresh_of sheet) ≡ 0
  fresh-depth = ap (λ (s : State). s.depth) (fresh-van sheet z 0 some-van)

  -- a step that left more levels than e, from a fleet that had no more
  just-opened : (f : Fleet) (u : List ℕ) (f' : Fleet) (u' : List ℕ) (word a b k e : ℕ) → HeldAll f → Took sheet f u word a b k f' u' → depth_of f ≤ e → e < depth_of f'
      → Shift (vans_of sheet) (word % van_weight) f f' → Opened sheet f' u' e
  just-opened f u f' u' word a b k e held took low high (keeps n same) = absurd (omega (arith, low, high, same 0 some-van))
  just-opened f u f' u' word a b k e held took low high (drops n same) = absurd (omega (arith, low, high, same 0 some-van))
  just-opened f u f' u' word a b k e held took low high (opens n same) = record {
    before = f;
    after = f';
    was = u;
    is = u';
    van = word / van_weight;
    first = a;
    second = b;
    rounds = k;
    held = held;
    took = subst (λ (w : ℕ). Took sheet f u w a b k f' u') (sym (word-said word) ∙ ap (in_van_word (word / van_weight)) n) took;
    deep = omega (arith, low, high, same 0 some-van);
    since = promises.none;
  }

  pub level-opened : {f : Fleet} {t' : List ℕ} → Steps sheet 0 (fresh_of sheet) t f t' → (e : ℕ) → e < depth_of f → Opened sheet f t' e
  level-opened promises.none e l = absurd (omega (arith, l, fresh-depth))
  level-opened {f} {t'} (promises.then {f' = q} {t' = u} word a b k p took deep) e l =
      decided (ltb e (depth_of q))
      (λ y. let o = level-opened p e (ltb-true e (depth_of q) y) in
      record {
        before = o.before;
        after = o.after;
        was = o.was;
        is = o.is;
        van = o.van;
        first = o.first;
        second = o.second;
        rounds = o.rounds;
        held = o.held;
        took = o.took;
        deep = o.deep;
        since = promises.then word a b k o.since took (omega (arith, o.deep, l));
      })
      (λ y. let held = reached-held sheet t z p in just-opened q u f t' word a b k e held took (ltb-false e (depth_of q) y) l (took-shift sheet q u word a b held took))

  -- so a step back is not refused where a level is open
  pub back-taken : {f : Fleet} {t' : List ℕ} → Steps sheet 0 (fresh_of sheet) t f t' → 0 < depth_of f → (word a b : ℕ) → word % van_weight ≡ kinds.BACK → (step_of sheet f t' word a b).0.answer ≡ 0
  back-taken {f} {t'} steps some word a b kind =
      let o = level-opened steps (depth_of f - 1) (omega (arith, some)) in
      let same = sym (ap (in_van_word (word / van_weight)) kind) ∙ word-said word in
      let took = (steps_back sheet o.before o.after f o.was o.is t' o.van o.first o.second o.rounds (word / van_weight) a b o.held o.took o.since (omega (arith, o.deep, some))).0 in
      ap (λ (r : RanAll). r.0.answer) (subst (λ (w : ℕ). Took sheet f t' w a b 0 o.before t') same took)

-- ---- a step whose refusals are none of them m

abbrev Avoids : ℕ → RanAll → Type 0
Avoids m r = r.0.answer ≡ m → ⊥

-- the answer of a step is its refusal
barring : (m c : ℕ) (f : Fleet) (t : List ℕ) (after : RanAll) → after.0.answer ≡ 0 → (c ≡ m → ⊥) → Avoids m (unless_barred c f t after)
barring m c f t after took avoid e =
    avoid (decided (eqb c 0)
    (λ q. let z = eqb-true c 0 q in z ∙ sym took ∙ sym (ap (λ (r : RanAll). r.0.answer) (unbarred c f t after z)) ∙ e)
    (λ q. sym (ap (λ (r : RanAll). r.0.answer) (barred c f t after (eqb-false c 0 q))) ∙ e))

-- of an answer that a test chooses
chosen : (P : RanAll → Type 0) (b : Bool) {x y : RanAll} → (b ≡ true → P x) → (b ≡ false → P y) → P (cond b x y)
chosen P true p q = p refl
chosen P false p q = q refl

-- what each kind of step but stepping back must avoid
pub record AvoidedAll (sheet : List ℕ) (f : Fleet) (t : List ℕ) (m : ℕ) : Type 0 where
  pub place : (i p x : ℕ) → i < vans_of sheet → place_bar (day_of sheet) (vans_of sheet) f t i p x ≡ m → ⊥
  pub act : (i kind a b : ℕ) → i < vans_of sheet → of_one_van kind ≡ true → (act_of (van_of sheet i) (day_of sheet) (state_in f i) (trail_in (vans_of sheet) t i) kind a b).0.answer ≡ m → ⊥
  pub oblige : (x : ℕ) → (trail.oblige_step (n_of sheet) (state_in f 0) (trail_in (vans_of sheet) t 0) x).0.answer ≡ m → ⊥
  pub level : level_bar f ≡ m → ⊥
  pub van : refusal.VAN ≡ m → ⊥
  pub kind : refusal.KIND ≡ m → ⊥

-- whether stepping back avoids it is asked apart
act-all-avoids : (sheet : List ℕ) (f : Fleet) (t : List ℕ) (step : Step) (m : ℕ) → AvoidedAll sheet f t m
    → (step.kind ≡ kinds.BACK → Avoids m (act_all (van_of sheet) (day_of sheet) (vans_of sheet) f t step)) → Avoids m (act_all (van_of sheet) (day_of sheet) (vans_of sheet) f t step)
unfolding act_all van_act alone together
act-all-avoids sheet f t step m h back =
    decided (eqb step.kind kinds.BACK)
    (λ q. back (eqb-true step.kind kinds.BACK q))
    (λ no. chosen (Avoids m) (eqb step.kind kinds.LEVEL) (λ q. barring m (level_bar f) f t _ refl h.level)
    (λ q. chosen (Avoids m) (eqb step.kind kinds.BACK) (λ y. absurd (false-true (sym no ∙ y)))
    (λ q. chosen (Avoids m) (eqb step.kind kinds.OBLIGE) (λ y. barring m _ f t _ refl (h.oblige step.first))
    (λ q. chosen (Avoids m) (of_one_van step.kind)
    (λ one. chosen (Avoids m) (not (ltb step.van (vans_of sheet))) (λ y e. h.van e)
    (λ y. let l = ltb-true step.van (vans_of sheet) (not-false (ltb step.van (vans_of sheet)) y) in
    chosen (Avoids m) (eqb step.kind kinds.PLACE) (λ w. barring m (place_bar (day_of sheet) (vans_of sheet) f t step.van step.first step.second) f t _ refl (h.place step.van step.first step.second l))
    (λ w. barring m _ f t _ refl (h.act step.van step.kind step.first step.second l one))))
    (λ y e. h.kind e)))))
  where
    not-false : (b : Bool) → not b ≡ false → b ≡ true
    not-false true e = refl
    not-false false e = sym e

-- ---- one van's step

abbrev VanAvoids : ℕ → Ran → Type 0
VanAvoids m r = r.0.answer ≡ m → ⊥

stepping : (m c : ℕ) (s : State) (t : List ℕ) (ran : Ran) → ran.0.answer ≡ 0 → (c ≡ m → ⊥) → VanAvoids m (trail.unless_refused c s t ran)
stepping m c s t ran took avoid e =
    avoid (decided (eqb c 0)
    (λ q. let z = eqb-true c 0 q in z ∙ sym took ∙ sym (ap (λ (r : Ran). r.0.answer) (step-yes c s t ran z)) ∙ e)
    (λ q. sym (ap (λ (r : Ran). r.0.answer) (step-no c s t ran (eqb-false c 0 q))) ∙ e))

-- what each of steps 1 to 5 must avoid in van i
pub record Avoided (sheet : List ℕ) (i : ℕ) (s : State) (t : List ℕ) (m : ℕ) : Type 0 where
  pub place : (p x : ℕ) → place_refusal (n_of sheet) (board_of s) s.records (room_of t) p x ≡ m → ⊥
  pub exclude : (owed : Bool) (x : ℕ) → exclude_refusal (n_of sheet) (board_of s) s.records (room_of t) owed x ≡ m → ⊥
  pub require : (x : ℕ) → require_refusal (n_of sheet) (board_of s) s.records (room_of t) x ≡ m → ⊥
  pub settle : unless (leb (s.records + shrunk s.sets (settled_sets (van_of sheet i) (day_of sheet) s) 64) (room_of t)) refusal.ROOM ≡ m → ⊥
  pub kind : refusal.KIND ≡ m → ⊥

act-avoids : (sheet : List ℕ) (i : ℕ) (s : State) (t : List ℕ) (kind a b m : ℕ) → of_one_van kind ≡ true → Avoided sheet i s t m → VanAvoids m (act_of (van_of sheet i) (day_of sheet) s t kind a b)
unfolding act_of trail.place_step trail.close_step trail.exclude_step trail.require_step trail.settle_step trail.recorded
act-avoids sheet i s t kind a b m one h =
    let most = leb-true kind kinds.SETTLE (and-true (leb kinds.PLACE kind) (leb kind kinds.SETTLE) one).1 in
    either (VanAvoids m) (eqb kind kinds.PLACE) (stepping m _ s t _ refl (h.place a b))
    (either (VanAvoids m) (eqb kind kinds.CLOSE) (stepping m _ s t _ refl (h.place a b))
    (either (VanAvoids m) (eqb kind kinds.EXCLUDE) (stepping m _ s t _ (zero-both (eqb (set_of (board_of s) a) 0) _ _ refl refl) (h.exclude (owed_of (day_of sheet) s a) a))
    (either (VanAvoids m) (eqb kind kinds.REQUIRE) (stepping m _ s t _ (zero-both (has s.marks a) _ _ refl refl) (h.require a))
    (either (VanAvoids m) (eqb kind kinds.SETTLE) (stepping m _ s t _ refl h.settle)
    (rw (ne_eqb kind kinds.LEVEL (λ z. omega (arith, most)), ne_eqb kind kinds.BACK (λ z. omega (arith, most))) h.kind)))))

oblige-avoids : (n : ℕ) (s : State) (t : List ℕ) (x m : ℕ) → (oblige_refusal n (board_of s) s.records (room_of t) x ≡ m → ⊥) → VanAvoids m (trail.oblige_step n s t x)
unfolding trail.oblige_step trail.recorded
oblige-avoids n s t x m h = stepping m _ s t _ (zero-both (has s.must x) _ _ refl refl) h

-- ---- 19 and 20: the numbers above those of a step's own refusals, and below those of its van

module _ (m : ℕ) (high : refusal.DEPTH < m) (low : m < refusal.VAN) where
  none : 0 ≡ m → ⊥
  none e = omega arith

  van-high : (sheet : List ℕ) (i : ℕ) (s : State) (t : List ℕ) → Avoided sheet i s t m
  unfolding place_refusal exclude_refusal require_refusal
  van-high sheet i s t = record {
    place = λ p x. else-avoids _ _ m (shut-low m (omega arith) (n_of sheet) (board_of s) p x) (unless-avoids (ltb s.records (room_of t)) refusal.ROOM m none (λ e. omega arith));
    exclude = λ owed x. else-avoids _ _ m (unless-avoids (is_inner (n_of sheet) x) refusal.NODE m none (λ e. omega arith))
        (else-avoids _ _ m (unless-avoids (not (on_route (board_of s) x)) refusal.PLACED m none (λ e. omega arith))
        (else-avoids _ _ m (unless-avoids (not owed) refusal.OWED m none (λ e. omega arith))
        (unless-avoids (eqb (set_of (board_of s) x) 0 || ltb s.records (room_of t)) refusal.ROOM m none (λ e. omega arith))));
    require = λ x. else-avoids _ _ m (unless-avoids (is_inner (n_of sheet) x) refusal.NODE m none (λ e. omega arith))
        (else-avoids _ _ m (unless-avoids (not (on_route (board_of s) x)) refusal.PLACED m none (λ e. omega arith))
        (unless-avoids (has s.marks x || ltb s.records (room_of t)) refusal.ROOM m none (λ e. omega arith)));
    settle = unless-avoids (leb (s.records + shrunk s.sets (settled_sets (van_of sheet i) (day_of sheet) s) 64) (room_of t)) refusal.ROOM m none (λ e. omega arith);
    kind = λ e. omega arith;
  }

  avoided-high : (sheet : List ℕ) (f : Fleet) (t : List ℕ) → AvoidedAll sheet f t m
  unfolding place_bar level_bar oblige_refusal
  avoided-high sheet f t = record {
    place = λ i p x l. else-avoids _ _ m (shut-low m (omega arith) (n_of sheet) (board_in f i) p x)
        (else-avoids _ _ m (unless-avoids (not (claimed (day_of sheet) (vans_of sheet) f i x)) refusal.CLAIMED m none (λ e. omega arith))
        (unless-avoids (all_below (vans_of sheet) (roomy (vans_of sheet) f t i x)) refusal.ROOM m none (λ e. omega arith)));
    act = λ i kind a b l one. act-avoids sheet i (state_in f i) (trail_in (vans_of sheet) t i) kind a b m one (van-high sheet i (state_in f i) (trail_in (vans_of sheet) t i));
    oblige = λ x. oblige-avoids (n_of sheet) (state_in f 0) (trail_in (vans_of sheet) t 0) x m
        (else-avoids _ _ m (unless-avoids (is_inner (n_of sheet) x) refusal.NODE m none (λ e. omega arith))
        (unless-avoids (has (state_in f 0).must x || ltb (state_in f 0).records (room_of (trail_in (vans_of sheet) t 0))) refusal.ROOM m none (λ e. omega arith)));
    level = unless-avoids (ltb (state_in f 0).depth 64) refusal.DEPTH m none (λ e. omega arith);
    van = λ e. omega arith;
    kind = λ e. omega arith;
  }

-- ---- stepping back is refused by 18 or 20

module _ (sheet : List ℕ) (f : Fleet) (t : List ℕ) (step : Step) (m : ℕ) (some : 0 ≡ m → ⊥) (deep : refusal.DEPTH ≡ m → ⊥) where
  abbrev turned : RanAll
  turned = turns_of (n_of sheet) (vans_of sheet) f t step

  bar-back : step.kind ≡ kinds.BACK → (back_bar (n_of sheet) (vans_of sheet) f t turned.0.fleet ≡ m → ⊥) → Avoids m (act_all (van_of sheet) (day_of sheet) (vans_of sheet) f t step)
  unfolding together
  bar-back e avoid w = barring m (back_bar (n_of sheet) (vans_of sheet) f t turned.0.fleet) f t turned refl avoid (sym (ap (λ (r : RanAll). r.0.answer) (act-back (van_of sheet) (day_of sheet) (vans_of sheet) f t step e)) ∙ w)

  back-avoids : (refusal.MISFIT ≡ m → ⊥) → step.kind ≡ kinds.BACK → Avoids m (act_all (van_of sheet) (day_of sheet) (vans_of sheet) f t step)
  unfolding back_bar
  back-avoids fits e = bar-back e (else-avoids _ _ m (unless-avoids (ltb 0 (state_in f 0).depth) refusal.DEPTH m some deep) (unless-avoids (all_below (vans_of sheet) (λ j. (trail.undo_level (n_of sheet) (state_in f j) (trail_in (vans_of sheet) t j)).0) && shares_none (n_of sheet) (vans_of sheet) turned.0.fleet) refusal.MISFIT m some fits))

  -- and where no level is open by 18
  back_none : ltb 0 (state_in f 0).depth ≡ false → step.kind ≡ kinds.BACK → Avoids m (act_all (van_of sheet) (day_of sheet) (vans_of sheet) f t step)
  unfolding back_bar or_else
  back_none shallow e = bar-back e (rw shallow deep)

-- ---- from a fresh fleet

module _ (sheet : List ℕ) (f : Fleet) (t t' : List ℕ) (z : call_refusal sheet ≡ 0) (steps : Steps sheet 0 (fresh_of sheet) t f t') where
  formed : form_with_all (n_of sheet) (vans_of sheet) f t' ≡ true
  formed = (reached-all sheet t z steps).form

  -- no call is refused
  acts : (word a b : ℕ) → step_of sheet f t' word a b ≡ act_all (van_of sheet) (day_of sheet) (vans_of sheet) f t' (step_said word a b)
  acts word a b = call-yes sheet f t' word a b (call-made sheet f t' z formed)

  avoids : (word a b m : ℕ) → AvoidedAll sheet f t' m → (word % van_weight ≡ kinds.BACK → (step_of sheet f t' word a b).0.answer ≡ m → ⊥) → (step_of sheet f t' word a b).0.answer ≡ m → ⊥
  avoids word a b m h back e =
      let same = ap (λ (r : RanAll). r.0.answer) (acts word a b) in
      act-all-avoids sheet f t' (step_said word a b) m h (λ q w. back q (same ∙ w)) (sym same ∙ e)

  pub misfit-never : (word a b : ℕ) → (step_of sheet f t' word a b).0.answer ≡ refusal.MISFIT → ⊥
  misfit-never word a b =
      avoids word a b refusal.MISFIT (avoided-high refusal.MISFIT (omega arith) (omega arith) sheet f t')
      (λ kind e. decided (ltb 0 (depth_of f))
      (λ q. omega (arith, sym (back-taken sheet t z steps (ltb-true 0 (depth_of f) q) word a b kind) ∙ e))
      (λ q. back_none sheet f t' (step_said word a b) refusal.MISFIT (λ y. omega arith) (λ y. omega arith) q kind (sym (ap (λ (r : RanAll). r.0.answer) (acts word a b)) ∙ e)))

  pub form-never : (word a b : ℕ) → (step_of sheet f t' word a b).0.answer ≡ refusal.FORM → ⊥
  form-never word a b =
      avoids word a b refusal.FORM (avoided-high refusal.FORM (omega arith) (omega arith) sheet f t')
      (λ kind e. back-avoids sheet f t' (step_said word a b) refusal.FORM (λ y. omega arith) (λ y. omega arith) (λ y. omega arith) kind (sym (ap (λ (r : RanAll). r.0.answer) (acts word a b)) ∙ e))

  -- ---- 17, with room

  module _ (space : n_of sheet * (n_of sheet - 2) + (n_of sheet - 2) ≤ length t / vans_of sheet / 2) where
    two : 2 ≤ n_of sheet
    two = (call-fine sheet z).n-low

    small : n_of sheet ≤ 64
    small = (call-fine sheet z).n-high

    van-full : (j : ℕ) → j < vans_of sheet → (n_of sheet + 1) * (n_of sheet - 2) ≤ room_of (trail_in (vans_of sheet) t j)
    unfolding share_of
    van-full j l = omega (arith, space, room-part (vans_of sheet) t j l, one_more (n_of sheet) (n_of sheet - 2))

    runs : (j : ℕ) → j < vans_of sheet → run.Runs (n_of sheet) (fresh_state (n_of sheet) (admitted sheet j)) (trail_in (vans_of sheet) t j) (state_in f j) (trail_in (vans_of sheet) t' j)
    runs = van-runs sheet t z steps

    van-space : (j : ℕ) → j < vans_of sheet → n_of sheet * (n_of sheet - 2) + members 64 (state_in f j).must ≤ room_of (trail_in (vans_of sheet) t j)
    van-space j l = space-full (n_of sheet) (admitted sheet j) two small (trail_in (vans_of sheet) t j) (state_in f j) (trail_in (vans_of sheet) t' j) (runs j l) (room_of (trail_in (vans_of sheet) t j)) (van-full j l)

    held-van : (j : ℕ) → j < vans_of sheet → Held (state_in f j)
    held-van j l = ((reached-all sheet t z steps).each j l).held

    van-roomy : (j : ℕ) → j < vans_of sheet → Avoided sheet j (state_in f j) (trail_in (vans_of sheet) t' j) refusal.ROOM
    van-roomy j l =
        let s = state_in f j in
        let u = trail_in (vans_of sheet) t' j in
        let t₀ = trail_in (vans_of sheet) t j in
        record {
          place = place-roomy (n_of sheet) (admitted sheet j) two small t₀ s u (runs j l) (van-space j l);
          exclude = exclude-roomy (n_of sheet) (admitted sheet j) two small t₀ s u (runs j l) (van-space j l);
          require = require-roomy (n_of sheet) (admitted sheet j) two small t₀ s u (runs j l) (van-space j l);
          settle = settle-roomy (n_of sheet) (admitted sheet j) two small t₀ s u (runs j l) (van-space j l) (settled_sets (van_of sheet j) (day_of sheet) s) (settled-smaller (van_of sheet j) sheet s u (held-van j l) (van-called sheet f t' z formed j l));
          kind = λ e. omega arith;
        }

    -- a ward that is open in van j is off its route
    open_free : (j x : ℕ) → j < vans_of sheet → is_inner (n_of sheet) x ≡ true → eqb (set_of (board_in f j) x) 0 ≡ false → Free (n_of sheet) (board_in f j) x
    open_free j x l i q =
        let h = (reached-all sheet t z steps).each j l in
        changed-free (n_of sheet) (board_in f j) x 0 (record { small = small; wide = h.held.wide; form = h.form.board }) (omega (arith, (is-inner (n_of sheet) x i).1, small)) (omega arith)
        (within_none (set_of (board_in f j) x)) (eqb-false (set_of (board_in f j) x) 0 q)

    -- where van j had no room for its record, its own part would be refused by 17
    no-room-here : (i p x : ℕ) → i < vans_of sheet → place_shut (n_of sheet) (board_in f i) p x ≡ 0 → ltb (state_in f i).records (room_of (trail_in (vans_of sheet) t' i)) ≡ false → ⊥
    unfolding place_refusal or_else
    no-room-here i p x l shut full = (van-roomy i l).place p x (rw (shut, full) refl)

    no-room-there : (j x : ℕ) → j < vans_of sheet → is_inner (n_of sheet) x ≡ true → eqb (set_of (board_in f j) x) 0 ≡ false → ltb (state_in f j).records (room_of (trail_in (vans_of sheet) t' j)) ≡ false → ⊥
    unfolding exclude_refusal or_else
    no-room-there j x l i q full = (van-roomy j l).exclude false x (rw (i, (open_free j x l i q).off, q, full) refl)

    place-room : (i p x : ℕ) → i < vans_of sheet → place_bar (day_of sheet) (vans_of sheet) f t' i p x ≡ refusal.ROOM → ⊥
    unfolding place_bar roomy
    place-room i p x l e =
        let a = else-next (place_shut (n_of sheet) (board_in f i) p x) _ refusal.ROOM (shut-low refusal.ROOM (omega arith) (n_of sheet) (board_in f i) p x) e in
        let b = else-next (unless (not (claimed (day_of sheet) (vans_of sheet) f i x)) refusal.CLAIMED) _ refusal.ROOM (unless-avoids (not (claimed (day_of sheet) (vans_of sheet) f i x)) refusal.CLAIMED refusal.ROOM (λ y. omega arith) (λ y. omega arith)) a.1 in
        let j = below-find (vans_of sheet) (roomy (vans_of sheet) f t' i x) (unless-fails (all_below (vans_of sheet) (roomy (vans_of sheet) f t' i x)) refusal.ROOM refusal.ROOM (λ y. omega arith) b.1) in
        let n = or-false (not (eqb j.0 i) && eqb (set_of (board_in f j.0) x) 0) (ltb (state_in f j.0).records (room_of (trail_in (vans_of sheet) t' j.0))) j.2 in
        decided (eqb j.0 i)
        (λ q. no-room-here i p x l a.0 (subst (λ (k : ℕ). ltb (state_in f k).records (room_of (trail_in (vans_of sheet) t' k)) ≡ false) (eqb-true j.0 i q) n.1))
        (λ q. no-room-there j.0 x j.1 (not-shut (n_of sheet) (board_in f i) p x a.0).0.node (rw q at n.0) n.1)

    avoided-room : AvoidedAll sheet f t' refusal.ROOM
    unfolding level_bar
    avoided-room = record {
      place = place-room;
      act = λ i kind a b l one. act-avoids sheet i (state_in f i) (trail_in (vans_of sheet) t' i) kind a b refusal.ROOM one (van-roomy i l);
      oblige = λ x. oblige-avoids (n_of sheet) (state_in f 0) (trail_in (vans_of sheet) t' 0) x refusal.ROOM
          (oblige-roomy-full (n_of sheet) (admitted sheet 0) two small (trail_in (vans_of sheet) t 0) (state_in f 0) (trail_in (vans_of sheet) t' 0) (runs 0 (some-van sheet t z)) (van-full 0 (some-van sheet t z)) x);
      level = unless-avoids (ltb (state_in f 0).depth 64) refusal.DEPTH refusal.ROOM (λ e. omega arith) (λ e. omega arith);
      van = λ e. omega arith;
      kind = λ e. omega arith;
    }

    pub room-never : (word a b : ℕ) → (step_of sheet f t' word a b).0.answer ≡ refusal.ROOM → ⊥
    room-never word a b =
        avoids word a b refusal.ROOM avoided-room
        (λ kind e. back-avoids sheet f t' (step_said word a b) refusal.ROOM (λ y. omega arith) (λ y. omega arith) (λ y. omega arith) kind (sym (ap (λ (r : RanAll). r.0.answer) (acts word a b)) ∙ e))

-- from a fresh fleet 20 is never met, whatever the room: what is undone fits, and the fleet of before shared no ward
pub never-misfit : (sheet : List ℕ) (f : Fleet) (t t' : List ℕ) (word a b : ℕ) → call_refusal sheet ≡ 0 → Steps sheet 0 (fresh_of sheet) t f t' → (step_of sheet f t' word a b).0.answer ≡ refusal.MISFIT → ⊥
never-misfit sheet f t t' word a b z steps = misfit-never sheet f t t' z steps word a b

pub never-short : NeverShort
never-short sheet f t t' word a b z space steps = (
  room-never sheet f t t' z steps space word a b,
  form-never sheet f t t' z steps word a b,
  never-misfit sheet f t t' word a b z steps,
)
