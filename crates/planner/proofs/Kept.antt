-- The promises, kept.
use Prim.Native.Nat.{ℕ, ◌/◌, ◌%◌, ◌+◌, ◌*◌, ◌≤◌, ◌<◌}
use mathlib.Core.Path.{◌≡◌, refl, sym, ap, subst, ◌∙◌}
use mathlib.Core.Bool.{true, false, not}
use mathlib.Core.List.{List}
use mathlib.Core.Logic.{◌↔◌, ◌≢◌, ⊎_elim}
use native.Mathlib.Omega.{arith}
use lib.Dec.{T, eqb, leb, ltb}
use lib.Count.{ones}
use lib.ListN.{length, get_or, take, drop, length-take, get_or-eq_default}
use borrow.Author.Tests.{eqb-true, eqb-false, eq-eqb, leb-true, ltb-true, ltb-false}
use Rattle.laws.proofs.Logic.{decided, and-true, T→true, true→T, false→N}
use Rattle.laws.proofs.Parts.{get_d_part}
use Rattle.laws.specs.Basic.{In, mem, sum_below, part_at, unless}
use Rattle.laws.proofs.Sum.{sum_lt}
use Rattle.sheet.specs.Section.{n_of, vans_of}
use Rattle.day.specs.Refuse.{call_refusal}
use Rattle.day.proofs.RefuseLaws.{call-fine}
use Rattle.day.specs.Tell.{day_of, van_of}
use Rattle.day.proofs.Asked.{proper, one_end, short-tables}
use Rattle.bits.specs.Places.{has}
use Rattle.bits.proofs.Members.{false-true, has-none, has-low, within_none}
use Rattle.bits.proofs.Number.{ones-members, members-fewer}
use Rattle.rules.specs.Numbers.{refusal, kinds, van_weight, most_vans, step_said}
use Rattle.rules.specs.Day.{Day, inner, is_inner}
use Rattle.rules.specs.declared.Van.{Van}
use Rattle.rules.specs.declared.Step.{Step}
use Rattle.rules.specs.Plan.{Plan, Places}
use Rattle.rules.specs.Steps as step
use Rattle.rules.specs.Settle.{strikes, settle, settled}
use Rattle.rules.specs.Asked.{Formed}
use Rattle.rules.specs.Fleet.{in_van, placed_in, obliged, alive_all, FormedAll}
use Rattle.rules.proofs.Inner.{is-inner-in}
use Rattle.rules.proofs.Twice.{at_most_two}
use Rattle.rules.proofs.Left.{round-left}
use Rattle.rules.proofs.Fixpoint.{settle-rests, settle-exact, settle-greatest}
use Rattle.rules.proofs.Forms.{formed-seen}
use Rattle.rules.proofs.FleetRounds.{placed-sets, closed-sets, excluded-sets, required-sets, obliged-sets, settling-keeps-all, SamePlans, same_back, belong-same, sets_same}
use Rattle.rules.proofs.FleetForms.{placed-formed-all, closed-formed-all, excluded-formed-all, required-formed-all, settled-formed-all, obliged-formed-all, formed-same}
use Rattle.rules.proofs.FleetVerdict.{no-gap-alive-all, dead-none-all}
use Rattle.board.specs.Board.{board_of, set_of, open_at, places_of}
use Rattle.board.specs.Form.{in_form}
use Rattle.board.proofs.FormLaws as board
use Rattle.board.proofs.Keep.{must-inner}
use Rattle.board.specs.Held.{Held}
use Rattle.board.specs.declared.State.{State}
use Rattle.records.specs.Trail.{room_of, Wordy}
use Rattle.trail.specs.Steps as trail
use Rattle.trail.specs.Steps.{Ran, acted}
use Rattle.trail.proofs.Must.{place-must, close-must, exclude-must, require-must, settle-must, level-must, back-must, oblige-must}
use Rattle.trail.proofs.Since.{accepted}
use Rattle.trail.proofs.StepBack.{KeptForm, move-keeps}
use Rattle.van.specs.Act.{plan_in, owed_of, settled_sets, settling_rounds}
use Rattle.van.proofs.Leaves.{act-must}
use Rattle.van.proofs.Plans.{plan-formed, placed-plan, closed-plan, excluded-plan, required-plan, obliged-plan}
use Rattle.fleet.specs.Fleet.{state_in, board_in, trail_in, share_of, HeldAll}
use Rattle.fleet.specs.Form.{shares_none, in_form_all, form_with_all}
use Rattle.fleet.specs.Sums.{plans_in, places_all}
use Rattle.fleet.specs.declared.Fleet.{Fleet}
use Rattle.fleet.proofs.FormLaws.{FleetForm, ward-none, shares-apart, in-form-all, in-form-all-make, form-with-all, form-with-all-make}
use Rattle.fleet.proofs.PlanLaws.{plans-formed, shares-none}
use Rattle.turns.specs.Turn.{turn_of}
use Rattle.acts.specs.Act.{of_one_van}
use Rattle.acts.specs.Moved.{RestStays, MovedAll}
use Rattle.acts.specs.Moved as turns
use Rattle.planner.specs.Face.{Counted, Judged, plans_of, count_of, judge_of}
use Rattle.planner.specs.Promises.{Took, Passes, in_van_word, plan_at, FormKept, PlacingKeeps, ClosingKeeps, ExcludingKeeps, RequiringKeeps, ObligingKeeps, SettlingStrikes, SettlingRests, SettlingExact, SettlingLargest, SettlingLosesNone, NoGapAlive, DeadNone}
use Rattle.planner.proofs.Depths.{shift, shifted}
use Rattle.planner.proofs.Answers.{ask-clear, acting, van-called, moved, van-goes, InVan, placing, closing, excluding, requiring, settles, settling-plan, obliging, levelling}

-- what holds of van i, and of each other van, holds of any
by-van : (P : ℕ → Type 0) (i j : ℕ) → P i → (j ≢ i → P j) → P j
by-van P i j p q = decided (eqb j i) (λ e. subst P (sym (eqb-true j i e)) p) (λ e. q (eqb-false j i e))

-- ---- what each accepted step makes of the plans: the rules' step

-- the states of the vans of a fleet are held
van-held : (sheet : List ℕ) (f : Fleet) → HeldAll f → call_refusal sheet ≡ 0 → (j : ℕ) → j < vans_of sheet → Held (state_in f j)
van-held sheet f held z j l = held.each j (omega (arith, l, (call-fine sheet z).vans-high))

-- the plans are in form before an accepted step
pub took-formed : (sheet : List ℕ) (f : Fleet) (t : List ℕ) (word a b : ℕ) {k : ℕ} {f' : Fleet} {t' : List ℕ} → HeldAll f → Took sheet f t word a b k f' t'
    → FormedAll (day_of sheet) (plans_of sheet f)
took-formed sheet f t word a b held e = let u = acting sheet f t word a b e in plans-formed sheet f u.0 held (form-with-all (n_of sheet) (vans_of sheet) f t u.1).0

-- a step of van i alone that makes g of its plan and leaves the marks "must go somewhere"
same-in-van : (v i : ℕ) (f f' : Fleet) (g : Plan → Plan) → 1 ≤ v → plan_at f' i ≡ g (plan_at f i) → (state_in f' i).must ≡ (state_in f i).must
    → ((j : ℕ) → j < v → j ≢ i → state_in f' j ≡ state_in f j) → SamePlans (plans_in v f') (in_van i g (plans_in v f))
same-in-van v i f f' g some p m others = record {
  vans = refl;
  plan = λ j l. decided (eqb j i)
      (λ e. rw e (subst (λ (h : ℕ). plan_at f' h ≡ g (plan_at f h)) (sym (eqb-true j i e)) p))
      (λ e. rw e (ap plan_in (others j l (eqb-false j i e))));
  must = λ x. ap (λ (w : ℕ). has w x) (by-van (λ h. (state_in f' h).must ≡ (state_in f h).must) i 0 m (λ ne. ap (λ (s : State). s.must) (others 0 some ne)));
}

-- a level more leaves the plan
level-plan : (s : State) (t : List ℕ) (r : State) (u : List ℕ) → trail.level_step s t ≡ acted 0 0 r u → plan_in r ≡ plan_in s
unfolding trail.level_step
level-plan s t r u e = sym (ap (λ (q : Ran). plan_in q.0.state) (accepted (unless (ltb s.depth 64) refusal.DEPTH) s t _ r u e).1)

module _ (sheet : List ℕ) (f : Fleet) (t : List ℕ) {k : ℕ} {f' : Fleet} {t' : List ℕ} (held : HeldAll f) where
  -- step 1
  pub placed-plans : (i p x : ℕ) → Took sheet f t (in_van_word i kinds.PLACE) p x k f' t'
      → SamePlans (plans_of sheet f') (placed_in i p x (plans_of sheet f)) × T ((plan_at f i).places x p)
  placed-plans i p x e =
      let u = placing sheet f t held i p x e in
      let z = (u.called i u.van).read in
      let here = placed-plan sheet (state_in f i) (trail_in (vans_of sheet) t i) (van-held sheet f held z i u.van) (u.called i u.van) p x u.here in (
        record {
          vans = refl;
          plan = λ j l. decided (eqb j i)
              (λ q. rw q (subst (λ (h : ℕ). plan_at f' h ≡ step.placed p x (plan_at f h)) (sym (eqb-true j i q)) here.0))
              (λ q. rw q (excluded-plan sheet (state_in f j) (trail_in (vans_of sheet) t j) (van-held sheet f held z j l) (u.called j l) false x (u.there j l (eqb-false j i q))).0);
          must = λ y. ap (λ (w : ℕ). has w y) (by-van (λ h. (state_in f' h).must ≡ (state_in f h).must) i 0
              (sym (ap (λ (r : Ran). r.0.state.must) u.here) ∙ place-must (n_of sheet) (state_in f i) (trail_in (vans_of sheet) t i) p x)
              (λ ne. sym (ap (λ (r : Ran). r.0.state.must) (u.there 0 (call-fine sheet z).vans-low ne)) ∙ exclude-must (n_of sheet) (state_in f 0) (trail_in (vans_of sheet) t 0) false x));
        },
        here.1,
      )

  -- a step of van i alone, its plan and its marks known
  in-van-plans : {i : ℕ} {ran : Ran} (g : Plan → Plan) (u : InVan sheet f t i k f' t' ran) → plan_at f' i ≡ g (plan_at f i) → ran.0.state.must ≡ (state_in f i).must
      → SamePlans (plans_of sheet f') (in_van i g (plans_of sheet f))
  in-van-plans {i} g u p m = same-in-van (vans_of sheet) i f f' g u.called.fine.vans-low p (sym (ap (λ (r : Ran). r.0.state.must) u.did) ∙ m) u.others.state

  -- step 2
  pub closed-plans : (i p x : ℕ) → Took sheet f t (in_van_word i kinds.CLOSE) p x k f' t' → SamePlans (plans_of sheet f') (in_van i (step.closed p x) (plans_of sheet f))
  closed-plans i p x e =
      let u = closing sheet f t held i p x e in
      in-van-plans (step.closed p x) u (closed-plan sheet (state_in f i) (trail_in (vans_of sheet) t i) (van-held sheet f held u.called.read i u.van) u.called p x u.did) (close-must (n_of sheet) (state_in f i) (trail_in (vans_of sheet) t i) p x)

  -- step 3; x is off the route
  pub excluded-plans : (i x b : ℕ) → Took sheet f t (in_van_word i kinds.EXCLUDE) x b k f' t'
      → SamePlans (plans_of sheet f') (in_van i (step.excluded x) (plans_of sheet f)) × T (not (mem x (plan_at f i).route))
  excluded-plans i x b e =
      let u = excluding sheet f t held i x b e in
      let s = state_in f i in
      let p = excluded-plan sheet s (trail_in (vans_of sheet) t i) (van-held sheet f held u.called.read i u.van) u.called (owed_of (day_of sheet) s x) x u.did in
      (in-van-plans (step.excluded x) u p.0 (exclude-must (n_of sheet) s (trail_in (vans_of sheet) t i) (owed_of (day_of sheet) s x) x), p.1)

  -- step 4; x is a ward
  pub required-plans : (i x b : ℕ) → Took sheet f t (in_van_word i kinds.REQUIRE) x b k f' t'
      → SamePlans (plans_of sheet f') (in_van i (step.required x) (plans_of sheet f)) × (is_inner (n_of sheet) x ≡ true)
  required-plans i x b e =
      let u = requiring sheet f t held i x b e in
      let s = state_in f i in
      let p = required-plan sheet s (trail_in (vans_of sheet) t i) (van-held sheet f held u.called.read i u.van) u.called x u.did in
      (in-van-plans (step.required x) u p.0 (require-must (n_of sheet) s (trail_in (vans_of sheet) t i) x), p.1)

  -- step 5
  pub settled-plans : (i a b : ℕ) → Took sheet f t (in_van_word i kinds.SETTLE) a b k f' t'
      → SamePlans (plans_of sheet f') (in_van i (settled (van_of sheet i) (day_of sheet)) (plans_of sheet f))
  settled-plans i a b e =
      let u = settles sheet f t held i a b e in
      in-van-plans (settled (van_of sheet i) (day_of sheet)) u (settling-plan sheet f t held i a b e).0
      (settle-must (n_of sheet) (state_in f i) (trail_in (vans_of sheet) t i) (settling_rounds (van_of sheet i) (day_of sheet) (state_in f i)) (settled_sets (van_of sheet i) (day_of sheet) (state_in f i)))

  -- step 8
  pub obliged-plans : (i x b : ℕ) → Took sheet f t (in_van_word i kinds.OBLIGE) x b k f' t' → SamePlans (plans_of sheet f') (obliged x (plans_of sheet f))
  obliged-plans i x b e =
      let u = (obliging sheet f t held i x b e).1 in record {
        vans = refl;
        plan = λ j l. by-van (λ h. plan_at f' h ≡ plan_at f h) 0 j (obliged-plan (n_of sheet) (state_in f 0) (trail_in (vans_of sheet) t 0) x u.did).0 (λ ne. ap plan_in (u.others.state j l ne));
        must = (oblige-must (n_of sheet) (state_in f 0) (trail_in (vans_of sheet) t 0) x (state_in f' 0) (trail_in (vans_of sheet) t' 0) u.called.fine.n-high u.did).1;
      }

  -- step 6
  pub levelled-plans : (i a b : ℕ) → Took sheet f t (in_van_word i kinds.LEVEL) a b k f' t' → SamePlans (plans_of sheet f') (plans_of sheet f)
  levelled-plans i a b e =
      let u = (levelling sheet f t held i a b e).1 in record {
        vans = refl;
        plan = λ j l. level-plan (state_in f j) (trail_in (vans_of sheet) t j) (state_in f' j) (trail_in (vans_of sheet) t' j) (u j l);
        must = λ x. ap (λ (w : ℕ). has w x)
            (sym (ap (λ (r : Ran). r.0.state.must) (u 0 (call-fine sheet (acting sheet f t (in_van_word i kinds.LEVEL) a b e).0).vans-low)) ∙ level-must (n_of sheet) (state_in f 0) (trail_in (vans_of sheet) t 0));
      }

-- ---- demand 2: the sets of rounds that each step keeps

pub placing-keeps : PlacingKeeps
placing-keeps sheet f f' t t' i p x k held e R =
    let u = placed-plans sheet f t held i p x e in
    sets_same (day_of sheet) R u.0
    (placed-sets (day_of sheet) (plans_of sheet f) R i p x (took-formed sheet f t (in_van_word i kinds.PLACE) p x held e) (placing sheet f t held i p x e).van u.1)

pub closing-keeps : ClosingKeeps
closing-keeps sheet f f' t t' i p x k held e R =
    sets_same (day_of sheet) R (closed-plans sheet f t held i p x e) (closed-sets (day_of sheet) (plans_of sheet f) R i p x (closing sheet f t held i p x e).van)

pub excluding-keeps : ExcludingKeeps
excluding-keeps sheet f f' t t' i x b k held e R =
    let u = excluded-plans sheet f t held i x b e in
    sets_same (day_of sheet) R u.0 (excluded-sets (day_of sheet) (plans_of sheet f) R i x (excluding sheet f t held i x b e).van u.1)

pub requiring-keeps : RequiringKeeps
requiring-keeps sheet f f' t t' i x b k held e R =
    sets_same (day_of sheet) R (required-plans sheet f t held i x b e).0 (required-sets (day_of sheet) (plans_of sheet f) R i x (requiring sheet f t held i x b e).van)

pub obliging-keeps : ObligingKeeps
obliging-keeps sheet f f' t t' i x b k held e R = sets_same (day_of sheet) R (obliged-plans sheet f t held i x b e) (obliged-sets (day_of sheet) (plans_of sheet f) R x)

-- ---- settling

-- the van's plan before it is in form
settling-formed : (sheet : List ℕ) (f f' : Fleet) (t t' : List ℕ) (i a b k : ℕ) → HeldAll f → Took sheet f t (in_van_word i kinds.SETTLE) a b k f' t'
    → (call_refusal sheet ≡ 0) × Formed (day_of sheet) (plan_at f i)
settling-formed sheet f f' t t' i a b k held e =
    let u = settles sheet f t held i a b e in (u.called.read, plan-formed (van-held sheet f held u.called.read i u.van) u.called)

pub settling-strikes : SettlingStrikes
settling-strikes sheet f f' t t' i a b k held e =
    let c = settling-formed sheet f f' t t' i a b k held e in
    let u = settling-plan sheet f t held i a b e in (
      u.0,
      u.1,
      rw u.1 (at_most_two (van_of sheet i) (day_of sheet) (one_end sheet c.0) (plan_at f i).route c.1.nodes (plan_at f i).places),
      (settles sheet f t held i a b e).others.state,
    )

-- the places after settling are those that the rules' settling leaves
left : (sheet : List ℕ) (f f' : Fleet) (t t' : List ℕ) (i a b k : ℕ) → HeldAll f → Took sheet f t (in_van_word i kinds.SETTLE) a b k f' t'
    → (plan_at f' i).places ≡ settle (van_of sheet i) (day_of sheet) (plan_at f i).route (plan_at f i).places
left sheet f f' t t' i a b k held e = ap (λ (p : Plan). p.places) (settling-plan sheet f t held i a b e).0

pub settling-rests : SettlingRests
settling-rests sheet f f' t t' i a b k held e =
    let c = settling-formed sheet f f' t t' i a b k held e in
    ap (λ (p : Plan). strikes (van_of sheet i) (day_of sheet) p.route p.places) (settling-plan sheet f t held i a b e).0
    ∙ settle-rests (van_of sheet i) (day_of sheet) (one_end sheet c.0) (plan_at f i).route c.1.nodes (plan_at f i).places (formed-seen c.1)

pub settling-exact : SettlingExact
settling-exact sheet f f' t t' i a b k held e x p =
    let c = settling-formed sheet f f' t t' i a b k held e in
    subst (λ (o : Places). T (o x p) ↔ (T ((plan_at f i).places x p) × Passes sheet i (plan_at f i).route o x p)) (sym (left sheet f f' t t' i a b k held e))
    (settle-exact (van_of sheet i) (day_of sheet) (one_end sheet c.0) (plan_at f i).route c.1.nodes (plan_at f i).places (formed-seen c.1) x p)

pub settling-largest : SettlingLargest
settling-largest sheet f f' t t' i a b k held e o stay x p h =
    subst (λ (q : Places). T (q x p)) (sym (left sheet f f' t t' i a b k held e))
    (settle-greatest (van_of sheet i) (day_of sheet) (plan_at f i).route o (plan_at f i).places (λ y q u. (stay y q u).0)
    (λ y q u. round-left (van_of sheet i) (day_of sheet) (plan_at f i).route o y q u (stay y q u).1) x p h)

pub settling-loses-none : SettlingLosesNone
settling-loses-none sheet f f' t t' i a b k z held e R keep belong =
    belong-same (day_of sheet) R (same_back (settled-plans sheet f t held i a b e)) (settling-keeps-all (day_of sheet) (plans_of sheet f) R i (van_of sheet) (short-tables sheet z) keep belong)

-- ---- no gap left, and dead

-- no place counted: no place open
none_open : (s : State) → Held s → places_of s.sets 64 ≡ 0 → (x p : ℕ) → T (not (open_at (board_of s) x p))
unfolding places_of open_at set_of
none_open s held z x p =
    decided (has (get_or s.sets x 0) p)
    (λ e. absurd (some e))
    (λ e. false→N (has (get_or s.sets x 0) p) e)
  where
    near : has (get_or s.sets x 0) p ≡ true → x < 64
    near e = decided (ltb x 64) (ltb-true x 64) (λ q. absurd (false-true (sym (has-none p) ∙ ap (λ (w : ℕ). has w p) (sym (get_or-eq_default s.sets 0 {n = x} (omega (arith, ltb-false x 64 q, held.wide.sets)))) ∙ e)))

    some : has (get_or s.sets x 0) p ≡ true → ⊥
    some e =
        let w = held.words.fits x (near e) in
        let m = members-fewer 0 (get_or s.sets x 0) p (within_none (get_or s.sets x 0)) (has-low (get_or s.sets x 0) p w e) e (has-none p) in
        let c : 0 < ones (get_or s.sets x 0) = omega (arith, ones-members (get_or s.sets x 0) w, m) in
        omega (arith, z, sum_lt 64 x (λ y. 0) (λ y. ones (get_or s.sets y 0)) (λ i h. omega arith) (near e) c)

-- a sum that is 0 is 0 in each part
none_each : (v : ℕ) (g : ℕ → ℕ) → sum_below v g ≡ 0 → (j : ℕ) → j < v → g j ≡ 0
none_each v g z j l = decided (eqb (g j) 0) (eqb-true (g j) 0)
    (λ e. let ne = eqb-false (g j) 0 e in let c : 0 < g j = omega (arith, ne) in absurd (omega (arith, z, sum_lt v j (λ y. 0) g (λ i h. omega arith) l c)))

-- a ward that must go somewhere is one
must-ward : (sheet : List ℕ) (f : Fleet) → HeldAll f → call_refusal sheet ≡ 0 → in_form_all (n_of sheet) (vans_of sheet) f ≡ true → (x : ℕ) → T ((plans_of sheet f).must x) → In x (inner (day_of sheet))
must-ward sheet f held z e x t =
    let fine = call-fine sheet z in
    let s = state_in f 0 in
    let h = van-held sheet f held z 0 fine.vans-low in
    let yes = T→true (has s.must x) t in
    let g = board.in-form (n_of sheet) s fine.n-high h.wide ((in-form-all (n_of sheet) (vans_of sheet) f fine.n-high fine.vans-high e).each 0 fine.vans-low) in
    is-inner-in (n_of sheet) x (must-inner (n_of sheet) (board_of s) g.board x (has-low s.must x h.words.must yes) yes)

pub gap-free : NoGapAlive
unfolding count_of judge_of places_all
gap-free sheet f held count judge =
    let z = ap (λ (r : Counted). r.answer) count in
    let a = ask-clear sheet f z in
    let none : sum_below (vans_of sheet) (λ j. places_of (state_in f j).sets 64) ≡ 0 = rw z at (ap (λ (r : Counted). r.places) count) in
    let live : alive_all (van_of sheet) (day_of sheet) (plans_of sheet f) ≡ true = rw z at (ap (λ (r : Judged). r.alive) judge) in
    no-gap-alive-all (van_of sheet) (day_of sheet) (plans_of sheet f) (proper sheet a.0) (plans-formed sheet f a.0 held a.1) (must-ward sheet f held a.0 a.1)
    (λ i x p l. none_open (state_in f i) (van-held sheet f held a.0 i l) (none_each (vans_of sheet) (λ j. places_of (state_in f j).sets 64) none i l) x p) (true→T _ live)

pub dead : DeadNone
unfolding judge_of
dead sheet f z held judge R belong keep =
    let q = ap (λ (r : Judged). r.answer) judge in
    let late : alive_all (van_of sheet) (day_of sheet) (plans_of sheet f) ≡ false = rw q at (ap (λ (r : Judged). r.alive) judge) in
    dead-none-all (van_of sheet) (day_of sheet) (plans_of sheet f) R (short-tables sheet z) (false→N _ late) belong keep

-- ---- demand 1: every accepted step keeps the form

-- the step that a word says, by its van and its kind
took_in : (sheet : List ℕ) (f : Fleet) (t : List ℕ) (word a b k : ℕ) (f' : Fleet) (t' : List ℕ) (kind : ℕ) → word % van_weight ≡ kind → Took sheet f t word a b k f' t'
    → Took sheet f t (in_van_word (word / van_weight) kind) a b k f' t'
took_in sheet f t word a b k f' t' kind q e =
    let same : word ≡ in_van_word (word / van_weight) kind = omega (arith, q) in
    subst (λ (w : ℕ). Took sheet f t w a b k f' t') same e

part-past : (w : ℕ) (t : List ℕ) (j i : ℕ) → w ≤ i → get_or (part_at w t j) i 0 ≡ 0
unfolding part_at
part-past w t j i l = get_or-eq_default (take w (drop (j * w) t)) 0 {n = i} (omega (arith, length-take w (drop (j * w) t)))

-- a van's part of a trail of words is one
part-words : (v : ℕ) (t : List ℕ) (j : ℕ) → Wordy t → Wordy (trail_in v t j)
unfolding trail_in
part-words v t j h = record {
  word = λ i. decided (ltb i (share_of v t))
      (λ e. rw (get_d_part (share_of v t) t j i (ltb-true i (share_of v t) e)) (h.word (j * share_of v t + i)))
      (λ e. rw (past i (ltb-false i (share_of v t) e)) (omega arith));
}
  where
    past : (i : ℕ) → share_of v t ≤ i → get_or (part_at (share_of v t) t j) i 0 ≡ 0
    past i l = part-past (share_of v t) t j i l

-- a van's turn in a placing leaves the marks "must go somewhere"
turn-must : (n : ℕ) (step : Step) (j : ℕ) (s : State) (t : List ℕ) → step.kind ≡ kinds.PLACE → (turn_of n step j s t).0.state.must ≡ s.must
unfolding turn_of
turn-must n step j s t e =
    rw (eq-eqb step.kind kinds.PLACE e)
    (decided (eqb j step.van) (λ q. rw q (place-must n s t step.first step.second)) (λ q. rw q (exclude-must n s t false step.second)))

-- another van than the first gets no such mark
must-goes : {vans : ℕ → Van} {d : Day} {v : ℕ} {f : Fleet} {t : List ℕ} {step : Step} {k : ℕ} {f' : Fleet} {t' : List ℕ} → MovedAll vans d v f t step k f' t'
    → (j : ℕ) → j < v → j ≢ 0 → (state_in f j).must ≡ 0 → (state_in f' j).must ≡ 0
must-goes {vans} {d} {v} {f} {t} {step} {k} {f'} {t'} (turns.placed q z h s c turn) j l ne none =
    sym (ap (λ (r : Ran). r.0.state.must) (turn j l)) ∙ turn-must d.n step j (state_in f j) (trail_in v t j) q ∙ none
must-goes {vans} {d} {v} {f} {t} {step} {k} {f'} {t'} (turns.alone q n h did others) j l ne none =
    by-van (λ i. (state_in f i).must ≡ 0 → (state_in f' i).must ≡ 0) step.van j
    (λ w. sym (ap (λ (r : Ran). r.0.state.must) did) ∙ act-must (vans step.van) d (state_in f step.van) (trail_in v t step.van) step.kind step.first step.second w)
    (λ o w. ap (λ (s : State). s.must) (others.state j l o) ∙ w) none
must-goes {vans} {d} {v} {f} {t} {step} {k} {f'} {t'} (turns.level q z to) j l ne none =
    sym (ap (λ (r : Ran). r.0.state.must) (to j l)) ∙ level-must d.n (state_in f j) (trail_in v t j) ∙ none
must-goes {vans} {d} {v} {f} {t} {step} {k} {f'} {t'} (turns.back q z to h) j l ne none =
    sym (ap (λ (r : Ran). r.0.state.must) (to j l)) ∙ back-must d.n (state_in f j) (trail_in v t j) none
must-goes {vans} {d} {v} {f} {t} {step} {k} {f'} {t'} (turns.obliged q z did others) j l ne none = ap (λ (s : State). s.must) (others.state j l ne) ∙ none

-- where it keeps each van's
module _ (sheet : List ℕ) (f f' : Fleet) (t t' : List ℕ) (word a b k : ℕ) (held : HeldAll f) (e : Took sheet f t word a b k f' t')
    (van-kept : (j : ℕ) → j < vans_of sheet → KeptForm (n_of sheet) (trail_in (vans_of sheet) t j) (state_in f' j) (trail_in (vans_of sheet) t' j)) where
  read : call_refusal sheet ≡ 0
  read = (acting sheet f t word a b e).0

  abbrev kind : ℕ
  kind = word % van_weight

  abbrev van : ℕ
  van = word / van_weight

  did : MovedAll (van_of sheet) (day_of sheet) (vans_of sheet) f t (step_said word a b) k f' t'
  did = (moved sheet f t word a b held e).0

  rest : RestStays (vans_of sheet) f t f' t'
  rest = (moved sheet f t word a b held e).1

  before : FleetForm (n_of sheet) (vans_of sheet) f
  before = in-form-all (n_of sheet) (vans_of sheet) f (call-fine sheet read).n-high (call-fine sheet read).vans-high (form-with-all (n_of sheet) (vans_of sheet) f t (acting sheet f t word a b e).1).0

  pub held_kept : HeldAll f'
  held_kept = record { eight = rest.eight; each = each }
    where
      each : (j : ℕ) → j < most_vans → Held (state_in f' j)
      each j m = decided (ltb j (vans_of sheet))
          (λ q. (van-kept j (ltb-true j (vans_of sheet) q)).held)
          (λ q. subst (λ (s : State). Held s) (sym (rest.beyond j (ltb-false j (vans_of sheet) q) m)) (held.each j m))

  van-form : (j : ℕ) → j < vans_of sheet → in_form (n_of sheet) (state_in f' j) ≡ true
  van-form j l = let m = van-kept j l in board.in-form-of (n_of sheet) (state_in f' j) (call-fine sheet read).n-high m.held.wide m.form

  -- the same step with its kind known
  of-kind : (other : ℕ) → kind ≡ other → Took sheet f t (in_van_word van other) a b k f' t'
  of-kind other q = took_in sheet f t word a b k f' t' other q e

  formed : FormedAll (day_of sheet) (plans_of sheet f)
  formed = took-formed sheet f t word a b held e

  abbrev After : Type 0
  After = FormedAll (day_of sheet) (plans_of sheet f')

  placed-after : kind ≡ kinds.PLACE → After
  placed-after q =
      let u = placed-plans sheet f t held van a b (of-kind kinds.PLACE q) in
      formed-same (day_of sheet) (same_back u.0) (placed-formed-all (day_of sheet) (plans_of sheet f) formed van a b (placing sheet f t held van a b (of-kind kinds.PLACE q)).van u.1)

  closed_after : kind ≡ kinds.CLOSE → After
  closed_after q = formed-same (day_of sheet) (same_back (closed-plans sheet f t held van a b (of-kind kinds.CLOSE q))) (closed-formed-all (day_of sheet) (plans_of sheet f) formed van a b)

  excluded-after : kind ≡ kinds.EXCLUDE → After
  excluded-after q = formed-same (day_of sheet) (same_back (excluded-plans sheet f t held van a b (of-kind kinds.EXCLUDE q)).0) (excluded-formed-all (day_of sheet) (plans_of sheet f) formed van a)

  required-after : kind ≡ kinds.REQUIRE → After
  required-after q =
      let u = required-plans sheet f t held van a b (of-kind kinds.REQUIRE q) in
      formed-same (day_of sheet) (same_back u.0) (required-formed-all (day_of sheet) (plans_of sheet f) formed van a (is-inner-in (n_of sheet) a u.1))

  settled-after : kind ≡ kinds.SETTLE → After
  settled-after q = formed-same (day_of sheet) (same_back (settled-plans sheet f t held van a b (of-kind kinds.SETTLE q))) (settled-formed-all (day_of sheet) (plans_of sheet f) formed van (van_of sheet van))

  -- steps 2 to 5
  alone-after : of_one_van kind ≡ true → kind ≢ kinds.PLACE → After
  alone-after one ne =
      let r = and-true (leb kinds.PLACE kind) (leb kind kinds.SETTLE) one in
      decided (eqb kind kinds.CLOSE) (λ y. closed_after (eqb-true kind kinds.CLOSE y))
      (λ n2. decided (eqb kind kinds.EXCLUDE) (λ y. excluded-after (eqb-true kind kinds.EXCLUDE y))
      (λ n3. decided (eqb kind kinds.REQUIRE) (λ y. required-after (eqb-true kind kinds.REQUIRE y))
      (λ n4. settled-after (last kind (leb-true kinds.PLACE kind r.0) (leb-true kind kinds.SETTLE r.1) ne (eqb-false kind kinds.CLOSE n2) (eqb-false kind kinds.EXCLUDE n3) (eqb-false kind kinds.REQUIRE n4)))))
    where
      last : (m : ℕ) → 1 ≤ m → m ≤ 5 → m ≢ 1 → m ≢ 2 → m ≢ 3 → m ≢ 4 → m ≡ 5
      last m l h a b c d = omega arith

  -- the rule between vans
  apart-kept : shares_none (n_of sheet) (vans_of sheet) f' ≡ true
  apart-kept = go did
    where
      by-plans : After → shares_none (n_of sheet) (vans_of sheet) f' ≡ true
      by-plans g = shares-none sheet f' read (van-held sheet f' held_kept read) van-form g.apart

      go : MovedAll (van_of sheet) (day_of sheet) (vans_of sheet) f t (step_said word a b) k f' t' → shares_none (n_of sheet) (vans_of sheet) f' ≡ true
      go (turns.placed q z h s c turn) = by-plans (placed-after q)
      go (turns.alone q n h step others) = by-plans (alone-after q n)
      go (turns.level q z to) = by-plans (formed-same (day_of sheet) (same_back (levelled-plans sheet f t held van a b (of-kind kinds.LEVEL q))) formed)
      go (turns.back q z to h) = h
      go (turns.obliged q z step others) = by-plans (formed-same (day_of sheet) (same_back (obliged-plans sheet f t held van a b (of-kind kinds.OBLIGE q))) (obliged-formed-all (day_of sheet) (plans_of sheet f) formed a))

  after : FleetForm (n_of sheet) (vans_of sheet) f'
  after =
      record {
        each = van-form;
        depth = shifted (shift did) (call-fine sheet read).vans-low before.depth;
        must = λ j l ne. must-goes did j l ne (before.must j l ne);
        rest = λ j h m. rw (rest.beyond j h m) (before.rest j h m);
        apart = λ i j y l h ne inn on. ward-none (board_in f' j) y (shares-apart (n_of sheet) (vans_of sheet) f' (call-fine sheet read).n-high apart-kept i j y l h ne inn on);
      }

  pub kept : (form_with_all (n_of sheet) (vans_of sheet) f' t' ≡ true) × HeldAll f' × (length t' ≡ length t)
  kept = (
    form-with-all-make (n_of sheet) (vans_of sheet) f' t' (in-form-all-make (n_of sheet) (vans_of sheet) f' (call-fine sheet read).vans-high after) (λ j l. (van-kept j l).room),
    held_kept,
    rest.long,
  )

-- each van by itself: whoever wrote the trail, it is one of words
van-kept : (sheet : List ℕ) (f f' : Fleet) (t t' : List ℕ) (word a b k : ℕ) → HeldAll f → Wordy t → Took sheet f t word a b k f' t'
    → (j : ℕ) → j < vans_of sheet → KeptForm (n_of sheet) (trail_in (vans_of sheet) t j) (state_in f' j) (trail_in (vans_of sheet) t' j)
van-kept sheet f f' t t' word a b k held wordy e j l =
    let u = acting sheet f t word a b e in
    let s = state_in f j in
    let part = trail_in (vans_of sheet) t j in
    let small = (call-fine sheet u.0).n-high in
    let h = van-held sheet f held u.0 j l in
    let c = van-called sheet f t u.0 u.1 j l in
    let form = board.in-form (n_of sheet) s small h.wide c.form in
    let room = (board.form-with (n_of sheet) s (room_of part) c.room).1 in
    ⊎_elim (move-keeps (n_of sheet) s part (state_in f' j) (trail_in (vans_of sheet) t' j) small h form room (part-words (vans_of sheet) t j wordy))
    (λ y. subst (λ (r : State). KeptForm (n_of sheet) part r (trail_in (vans_of sheet) t' j)) (sym y.0)
    (subst (λ (w : List ℕ). KeptForm (n_of sheet) part s w) (sym y.1) (record { form = form; held = h; room = room; long = refl })))
    (van-goes sheet f t word a b held e j l)

pub form-kept : FormKept
form-kept sheet f f' t t' word a b k held wordy e = kept sheet f f' t t' word a b k held e (van-kept sheet f f' t t' word a b k held wordy e)
