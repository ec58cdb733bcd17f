-- Demand 3 for the real steps: a run's end, every van settled once more, is what 01 works out per van from the start.
-- Seen from one van, a run of the fleet is a run of the rules, with the wards placed elsewhere among the excluded ones.
use Prim.Native.Nat.{ℕ, ◌≤◌, ◌<◌}
use mathlib.Core.Path.{◌≡◌, refl, sym, ap, subst, ◌∙◌}
use mathlib.Core.Bool.{true, cond, not}
use mathlib.Core.List.{List}
use mathlib.Core.Logic.{◌≢◌}
use native.Mathlib.Omega.{arith}
use lib.Dec.{T, eqb}
use borrow.Author.Tests.{eqb-true, eqb-false}
use Rattle.laws.proofs.Logic.{decided}
use Rattle.laws.specs.Basic.{or_else, mem}
use Rattle.sheet.specs.Section.{n_of, vans_of}
use Rattle.day.specs.Refuse.{call_refusal}
use Rattle.day.proofs.RefuseLaws.{call-zero, call-fine}
use Rattle.day.specs.Tell.{day_of, van_of}
use Rattle.day.proofs.Asked.{one_end, short-tables}
use Rattle.bits.specs.Places.{has}
use Rattle.rules.specs.Numbers.{kinds, van_weight}
use Rattle.rules.specs.Plan.{Plan}
use Rattle.rules.specs.Settle.{settled}
use Rattle.rules.specs.Verdict.{alive}
use Rattle.rules.specs.Worked as rules
use Rattle.rules.specs.Fleet.{Plans, alive_all}
use Rattle.rules.proofs.FleetAlike.{RunAll, end_all, alive-all-same, run-alike-all, runs-alike-all}
use Rattle.van.proofs.Plans.{placed-plan}
use Rattle.fleet.specs.Fleet.{state_in, trail_in, HeldAll}
use Rattle.fleet.specs.Form.{in_form_all, form_with_all}
use Rattle.fleet.specs.declared.Fleet.{Fleet}
use Rattle.planner.specs.Face.{ask_refusal, judge_of, plans_of}
use Rattle.planner.specs.Promises.{Took, Run, Settles, SettlesAll, WorkedOut, RunsAlike, in_van_word, plan_at, depth_of}
use Rattle.planner.specs.Promises as promises
use Rattle.planner.proofs.Answers.{acting, placing, word-kind}
use Rattle.fleet.proofs.FormLaws.{form-with-all}
use Rattle.fleet.proofs.PlanLaws.{plans-formed}
use Rattle.planner.proofs.Kept.{placed-plans, excluded-plans, required-plans, settled-plans, obliged-plans}
use Rattle.planner.proofs.Depths.{Shift, keeps, opens, drops}
use Rattle.planner.proofs.Courses.{took-shift, facts, SinceAll, start_of, held-since, onward, sound-van, words-van, here-all}

-- ---- a run begins with a call that is not refused, if it ends with one

abbrev Formed : List ℕ → Fleet → List ℕ → Type 0
Formed sheet f t = form_with_all (n_of sheet) (vans_of sheet) f t ≡ true

run-start : {sheet : List ℕ} {f : Fleet} {t : List ℕ} {f₁ : Fleet} {t₁ : List ℕ} {X : ℕ → List ℕ} → Run sheet f t f₁ t₁ X → Formed sheet f₁ t₁ → Formed sheet f t
run-start promises.begin c = c
run-start {sheet} (promises.place {f' = q} {t' = u} i p x r e) c = run-start r (acting sheet q u (in_van_word i kinds.PLACE) p x e).1
run-start {sheet} (promises.exclude {f' = q} {t' = u} i x b r e) c = run-start r (acting sheet q u (in_van_word i kinds.EXCLUDE) x b e).1
run-start {sheet} (promises.require {f' = q} {t' = u} i x b r e) c = run-start r (acting sheet q u (in_van_word i kinds.REQUIRE) x b e).1
run-start {sheet} (promises.settling {f' = q} {t' = u} i a b k r e) c = run-start r (acting sheet q u (in_van_word i kinds.SETTLE) a b e).1
run-start {sheet} (promises.oblige {f' = q} {t' = u} i x b r e) c = run-start r (acting sheet q u (in_van_word i kinds.OBLIGE) x b e).1

settles-start : {sheet : List ℕ} {f : Fleet} {t : List ℕ} {i : ℕ} {f₁ : Fleet} {t₁ : List ℕ} → Settles sheet f t i f₁ t₁ → Formed sheet f₁ t₁ → Formed sheet f t
settles-start promises.none c = c
settles-start {sheet} (promises.then {f' = q} {t' = u} {i = i} a b k p e) c = settles-start p (acting sheet q u (in_van_word i kinds.SETTLE) a b e).1

-- one van at least was settled
settles-some : {sheet : List ℕ} {f f₁ : Fleet} {t t₁ : List ℕ} {i : ℕ} → 0 < i → Settles sheet f t i f₁ t₁ → Formed sheet f t
settles-some l promises.none = absurd (omega (arith, l))
settles-some {sheet} l (promises.then {f' = q} {t' = u} {i = i} a b k p e) = settles-start p (acting sheet q u (in_van_word i kinds.SETTLE) a b e).1

-- a step that is not one back leaves the levels open
still_open : {v kind : ℕ} {f f' : Fleet} → Shift v kind f f' → kind ≢ kinds.BACK → 0 < v → depth_of f ≤ depth_of f'
still_open (keeps n same) other some = omega (arith, same 0 some)
still_open (opens n more) other some = omega (arith, more 0 some)
still_open (drops n less) other some = absurd (other n)

-- ---- a run of the real steps is in each van a run of the rules

module _ (sheet : List ℕ) (f : Fleet) (t : List ℕ) (held : HeldAll f) (z : call_refusal sheet ≡ 0) (form : Formed sheet f t) where
  abbrev After : Fleet → List ℕ → Type 0
  After f₁ t₁ = SinceAll sheet f (start_of sheet f t) f₁ t₁

  some : 0 < vans_of sheet
  some = omega (arith, (call-fine sheet z).vans-low)

  held_after : {q : Fleet} {u : List ℕ} → After q u → HeldAll q
  held_after h = held-since sheet f (start_of sheet f t) held (sound-van sheet f t held z form) (words-van sheet f t held z form) h

  -- one step more that is not one back
  further : (q : Fleet) (u : List ℕ) {r : Fleet} {w : List ℕ} (i kind a b k : ℕ) → kind < van_weight → kind ≢ kinds.BACK → After q u → Took sheet q u (in_van_word i kind) a b k r w → After r w
  further q u i kind a b k low other h e =
      let more = still_open (took-shift sheet q u (in_van_word i kind) a b (held_after h) e) (λ y. other (sym (word-kind i kind low) ∙ y)) some in
      onward sheet f (start_of sheet f t) held (sound-van sheet f t held z form) (words-van sheet f t held z form) (in_van_word i kind) a b k h e
      (λ j l. omega (arith, more, (h.each j l).deep, (facts sheet q u z h.form).depth j l))

  abbrev VanRun : ℕ → Plan → List ℕ → Type 0
  VanRun j a X = rules.PlanRun (van_of sheet j) (day_of sheet) (plan_at f j) a X

  -- to the plan that the step left
  step-to : (j : ℕ) {a b : Plan} {X : List ℕ} → a ≡ b → VanRun j b X → VanRun j a X
  step-to j {X = X} e run = subst (λ (p : Plan). VanRun j p X) (sym e) run

  abbrev Course : Fleet → List ℕ → (ℕ → List ℕ) → Type 0
  Course f₁ t₁ X = ((j : ℕ) → j < vans_of sheet → VanRun j (plan_at f₁ j) (X j)) × After f₁ t₁

  -- x placed in van i, excluded in every other
  course-place : (q : Fleet) (u : List ℕ) (r : Fleet) (w : List ℕ) (X : ℕ → List ℕ) (i p x : ℕ) → Course q u X → Took sheet q u (in_van_word i kinds.PLACE) p x 0 r w → Course r w (promises.shut_elsewhere i x X)
  course-place q u r w X i p x c e =
      let held' = held_after c.1 in
      let s = placed-plans sheet q u held' i p x e in
      let a = placing sheet q u held' i p x e in
      let off = (placed-plan sheet (state_in q i) (trail_in (vans_of sheet) u i) (held'.each i (omega (arith, a.van, (call-fine sheet z).vans-high))) (a.called i a.van) p x a.here).2 in (
        λ j l. decided (eqb j i)
            (λ y. let m = sym (eqb-true j i y) in
            let plan = s.0.plan j l in
            rw y (step-to j (rw y at plan) (rules.place p x (c.0 j l) (subst (λ (h : ℕ). T (not (mem x (plan_at q h).route))) m off) (subst (λ (h : ℕ). T ((plan_at q h).places x p)) m s.1))))
            (λ y. let plan = s.0.plan j l in rw y (step-to j (rw y at plan) (rules.exclude x (c.0 j l)))),
        further q u i kinds.PLACE p x 0 (omega arith) (λ y. omega arith) c.1 e,
      )

  course-exclude : (q : Fleet) (u : List ℕ) (r : Fleet) (w : List ℕ) (X : ℕ → List ℕ) (i x b : ℕ) → Course q u X → Took sheet q u (in_van_word i kinds.EXCLUDE) x b 0 r w → Course r w (promises.shut_in i x X)
  course-exclude q u r w X i x b c e =
      let s = (excluded-plans sheet q u (held_after c.1) i x b e).0 in (
        λ j l. let plan = s.plan j l in
            decided (eqb j i) (λ y. rw y (step-to j (rw y at plan) (rules.exclude x (c.0 j l)))) (λ y. rw y (step-to j (rw y at plan) (c.0 j l))),
        further q u i kinds.EXCLUDE x b 0 (omega arith) (λ y. omega arith) c.1 e,
      )

  course-require : (q : Fleet) (u : List ℕ) (r : Fleet) (w : List ℕ) (X : ℕ → List ℕ) (i x b : ℕ) → Course q u X → Took sheet q u (in_van_word i kinds.REQUIRE) x b 0 r w → Course r w X
  course-require q u r w X i x b c e =
      let s = (required-plans sheet q u (held_after c.1) i x b e).0 in (
        λ j l. let plan = s.plan j l in
            decided (eqb j i) (λ y. step-to j (rw y at plan) (rules.require x (c.0 j l))) (λ y. step-to j (rw y at plan) (c.0 j l)),
        further q u i kinds.REQUIRE x b 0 (omega arith) (λ y. omega arith) c.1 e,
      )

  -- van i settled: the others stay
  settled_at : (q : Fleet) (u : List ℕ) (r : Fleet) (w : List ℕ) (i a b k : ℕ) → After q u → Took sheet q u (in_van_word i kinds.SETTLE) a b k r w → (j : ℕ) → j < vans_of sheet
      → plan_at r j ≡ cond (eqb j i) (settled (van_of sheet i) (day_of sheet) (plan_at q j)) (plan_at q j)
  settled_at q u r w i a b k h e j l = (settled-plans sheet q u (held_after h) i a b e).plan j l

  course-settle : (q : Fleet) (u : List ℕ) (r : Fleet) (w : List ℕ) (X : ℕ → List ℕ) (i a b k : ℕ) → Course q u X → Took sheet q u (in_van_word i kinds.SETTLE) a b k r w → Course r w X
  course-settle q u r w X i a b k c e = (
    λ j l. let plan = settled_at q u r w i a b k c.1 e j l in
        decided (eqb j i)
        (λ y. let plan-i : plan_at r j ≡ settled (van_of sheet i) (day_of sheet) (plan_at q j) = rw y at plan in
        step-to j (plan-i ∙ ap (λ (h : ℕ). settled (van_of sheet h) (day_of sheet) (plan_at q j)) (sym (eqb-true j i y))) (rules.settling (c.0 j l)))
        (λ y. step-to j (rw y at plan) (c.0 j l)),
    further q u i kinds.SETTLE a b k (omega arith) (λ y. omega arith) c.1 e,
  )

  course-oblige : (q : Fleet) (u : List ℕ) (r : Fleet) (w : List ℕ) (X : ℕ → List ℕ) (i x b : ℕ) → Course q u X → Took sheet q u (in_van_word i kinds.OBLIGE) x b 0 r w → Course r w X
  course-oblige q u r w X i x b c e =
      let s = obliged-plans sheet q u (held_after c.1) i x b e in
      (λ j l. step-to j (s.plan j l) (c.0 j l), further q u i kinds.OBLIGE x b 0 (omega arith) (λ y. omega arith) c.1 e)

  pub course : {f₁ : Fleet} {t₁ : List ℕ} {X : ℕ → List ℕ} → Run sheet f t f₁ t₁ X → Course f₁ t₁ X
  course promises.begin = (λ j l. rules.begin, here-all sheet f t held z form)
  course (promises.place {f' = q} {f'' = r} {t' = u} {t'' = w} {X = X} i p x run e) = course-place q u r w X i p x (course run) e
  course (promises.exclude {f' = q} {f'' = r} {t' = u} {t'' = w} {X = X} i x b run e) = course-exclude q u r w X i x b (course run) e
  course (promises.require {f' = q} {f'' = r} {t' = u} {t'' = w} {X = X} i x b run e) = course-require q u r w X i x b (course run) e
  course (promises.settling {f' = q} {f'' = r} {t' = u} {t'' = w} {X = X} i a b k run e) = course-settle q u r w X i a b k (course run) e
  course (promises.oblige {f' = q} {f'' = r} {t' = u} {t'' = w} {X = X} i x b run e) = course-oblige q u r w X i x b (course run) e

  -- ---- every van settled once more

  -- the first i vans are settled, the others as they were; so are the marks "must go somewhere"
  pub record Settled (i : ℕ) (g : Fleet) (q : Fleet) (u : List ℕ) : Type 0 where
    pub done : (j : ℕ) → j < i → j < vans_of sheet → plan_at q j ≡ settled (van_of sheet j) (day_of sheet) (plan_at g j)
    pub left : (j : ℕ) → i ≤ j → j < vans_of sheet → plan_at q j ≡ plan_at g j
    pub must : (x : ℕ) → has (state_in q 0).must x ≡ has (state_in g 0).must x
    pub after : After q u

  pub settling-all : {g : Fleet} {u : List ℕ} {i : ℕ} {r : Fleet} {w : List ℕ} → After g u → Settles sheet g u i r w → Settled i g r w
  settling-all h promises.none = record { done = λ j l. absurd (omega (arith, l)); left = λ j p l. refl; must = λ x. refl; after = h }
  settling-all {g = g} h (promises.then {f' = q} {f'' = r} {t' = u} {t'' = w} {i = i} a b k p e) =
      let s = settling-all h p in
      let plans = settled-plans sheet q u (held_after s.after) i a b e in
      record {
        done = λ j m l. let plan = plans.plan j l in
            decided (eqb j i)
            (λ y. let same = eqb-true j i y in
            let plan-i : plan_at r j ≡ settled (van_of sheet i) (day_of sheet) (plan_at q j) = rw y at plan in
            plan-i ∙ ap (λ (h : ℕ). settled (van_of sheet h) (day_of sheet) (plan_at q j)) (sym same) ∙ ap (settled (van_of sheet j) (day_of sheet)) (s.left j (omega (arith, same)) l))
            (λ y. let stays : plan_at r j ≡ plan_at q j = rw y at plan in stays ∙ s.done j (omega (arith, m, eqb-false j i y)) l);
        left = λ j m l. let plan = plans.plan j l in
            decided (eqb j i) (λ y. absurd (omega (arith, m, eqb-true j i y))) (λ y. let stays : plan_at r j ≡ plan_at q j = rw y at plan in stays ∙ s.left j (omega (arith, m)) l);
        must = λ x. plans.must x ∙ s.must x;
        after = further q u i kinds.SETTLE a b k (omega arith) (λ y. omega arith) s.after e;
      }

-- the verdict asked of a fleet that is not refused
judged : (sheet : List ℕ) (f : Fleet) → call_refusal sheet ≡ 0 → in_form_all (n_of sheet) (vans_of sheet) f ≡ true → (judge_of sheet f).alive ≡ alive_all (van_of sheet) (day_of sheet) (plans_of sheet f)
unfolding judge_of ask_refusal or_else
judged sheet f z e = rw (z, e)

-- a run and the settling of every van after it: the runs of the rules, the plans at the end, and their verdict as it is asked
module _ (sheet : List ℕ) (f f₁ f₂ : Fleet) (t t₁ t₂ : List ℕ) (X : ℕ → List ℕ) (z : call_refusal sheet ≡ 0) (held : HeldAll f) (run : Run sheet f t f₁ t₁ X) (all : SettlesAll sheet f₁ t₁ f₂ t₂) where
  start : Formed sheet f t
  start = run-start run (settles-some (omega (arith, (call-fine sheet z).vans-low)) all)

  pub ruled : RunAll (van_of sheet) (day_of sheet) (plans_of sheet f) (plan_at f₁) X
  ruled = (course sheet f t held z start run).0

  ended : Settled sheet f t held z start (vans_of sheet) f₁ f₂ t₂
  ended = settling-all sheet f t held z start (course sheet f t held z start run).1 all

  -- the plans at the end, every van settled
  abbrev pub end_plans : Plans
  end_plans = end_all (van_of sheet) (day_of sheet) (plans_of sheet f) (plan_at f₁) (has (state_in f₁ 0).must)

  pub end-plan : (j : ℕ) → j < vans_of sheet → plan_at f₂ j ≡ settled (van_of sheet j) (day_of sheet) (plan_at f₁ j)
  end-plan j l = ended.done j l l

  pub end-verdict : (judge_of sheet f₂).alive ≡ alive_all (van_of sheet) (day_of sheet) end_plans
  end-verdict =
      judged sheet f₂ z (form-with-all (n_of sheet) (vans_of sheet) f₂ t₂ ended.after.form).0
      ∙ alive-all-same (van_of sheet) (day_of sheet) (plans_of sheet f₂) end_plans refl (λ j l. ap (λ (p : Plan). p.route) (end-plan j l))
      (λ j l. record { places = λ x p. ap (λ (a : Plan). a.places x p) (end-plan j l); verdict = ap (alive (van_of sheet j) (day_of sheet)) (end-plan j l) }) (λ x i. ended.must x)

pub worked-out : WorkedOut
worked-out sheet f f₁ f₂ t t₁ t₂ X o held form run all =
    let z = call-zero sheet o in
    let same = run-alike-all (van_of sheet) (day_of sheet) (short-tables sheet o) (one_end sheet z) (plans_of sheet f) (plans-formed sheet f z held form) (plan_at f₁) X (has (state_in f₁ 0).must)
    (ruled sheet f f₁ f₂ t t₁ t₂ X z held run all) in (
      λ j l x p. ap (λ (a : Plan). a.places x p) (end-plan sheet f f₁ f₂ t t₁ t₂ X z held run all j l) ∙ (same.each j l).places x p,
      end-verdict sheet f f₁ f₂ t t₁ t₂ X z held run all ∙ same.verdict,
    )

pub alike : RunsAlike
alike sheet f f₁ f₂ f₃ f₄ t t' t₁ t₂ t₃ t₄ X Y o held form run all run' all' route shut marks must =
    let z = call-zero sheet o in
    let same = runs-alike-all (van_of sheet) (day_of sheet) (short-tables sheet o) (one_end sheet z) (plans_of sheet f) (plans-formed sheet f z held form) (plan_at f₁) (plan_at f₃) X Y
    (has (state_in f₁ 0).must) (has (state_in f₃ 0).must) (ruled sheet f f₁ f₂ t t₁ t₂ X z held run all) (ruled sheet f f₃ f₄ t' t₃ t₄ Y z held run' all') route shut marks (λ x i. must x) in (
      λ j l x p. ap (λ (a : Plan). a.places x p) (end-plan sheet f f₁ f₂ t t₁ t₂ X z held run all j l) ∙ (same.each j l).places x p
          ∙ sym (ap (λ (a : Plan). a.places x p) (end-plan sheet f f₃ f₄ t' t₃ t₄ Y z held run' all' j l)),
      end-verdict sheet f f₁ f₂ t t₁ t₂ X z held run all ∙ same.verdict ∙ sym (end-verdict sheet f f₃ f₄ t' t₃ t₄ Y z held run' all'),
    )
