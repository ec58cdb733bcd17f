-- What holds of a fleet that steps have led to from the fresh one, where a step leads on, and what a line tells of it.
use Prim.Native.Nat.{ℕ, ◌+◌, ◌-◌, ◌<◌, ◌≤◌}
use Rattle.std.specs.Prelude.{Result}
use mathlib.Core.Bool.{Bool, true, false, cond, not, ◌&&◌, ◌||◌}
use mathlib.Core.List.{List, [], ◌∷◌}
use mathlib.Core.Path.{◌≡◌, refl, sym, ap, ap₂, subst, ◌∙◌}
use mathlib.Core.Logic.{⊎_elim}
use native.Mathlib.Omega.{arith}
use native.Mathlib.Nat.{mul-le-mul}
use lib.ListN.{get_or}
use lib.Count.{ones, ones-le}
use lib.Dec.{eqb}
use borrow.Author.Tests.{eqb-true, eqb-false}
use Rattle.laws.proofs.Logic.{decided, T→true, true→T}
use Rattle.laws.proofs.Sum.{sum_same, sum-most}
use Rattle.laws.proofs.Below.{below-same}
use Rattle.laws.specs.Basic.{or_else, sum_below, all_below, any_below}
use Rattle.laws.proofs.AnyLaws.{any-below-i, any-below-same}
use Rattle.bits.specs.Places.{has}
use Rattle.bits.proofs.Members.{false-true}
use Rattle.rules.specs.Numbers.{refusal, most_vans, step_said}
use Rattle.rules.specs.declared.Refusal.{Refusal}
use Rattle.rules.specs.declared.Step.{Step}
use Rattle.rules.specs.Verdict.{alive}
use Rattle.sheet.specs.Section.{n_of, vans_of}
use Rattle.sheet.specs.Place.{Laid}
use Rattle.sheet.specs.declared.Layout.{Layout}
use Rattle.day.specs.Refuse.{call_refusal}
use Rattle.day.proofs.RefuseLaws.{call-fine}
use Rattle.day.specs.Tell.{day_of, van_of, admitted}
use Rattle.board.specs.Board.{Board, board_of, places_of, set_of}
use Rattle.board.specs.Held.{Held, Words}
use Rattle.board.specs.declared.State.{State}
use Rattle.trail.proofs.Bound.{records-bound}
use Rattle.trail.proofs.Still.{move-still, move-route}
use Rattle.stands.specs.Stands.{plan_of}
use Rattle.listing.specs.Text.{step_line}
use Rattle.fleet.specs.Fleet.{state_in, board_in, trail_in, HeldAll}
use Rattle.fleet.specs.Form.{has_ward, in_form_all, form_with_all}
use Rattle.fleet.specs.Rows.{figures_in, row_state, fleet_with, Rows, Figured, ReadyAll}
use Rattle.fleet.specs.Sums.{places_all, records_all, all_served}
use Rattle.fleet.specs.declared.Fleet.{Fleet}
use Rattle.fleet.proofs.FleetLaws.{state-of}
use Rattle.fleet.proofs.PlanLaws.{alive-all}
use Rattle.turns.specs.Together.{RanAll, acted_all, ran_all}
use Rattle.acts.specs.Act.{act_all}
use Rattle.acts.specs.Known.{KnownRows, Did}
use Rattle.turns.specs.Turn.{EightRows}
use Rattle.planner.specs.Face.{fresh_of, ask_refusal, step_of, count_of, judge_of}
use Rattle.planner.specs.Promises.{Took, none, then}
use Rattle.planner.proofs.Answers.{unchanged, call-made, call-yes, van-goes}
use Rattle.planner.proofs.Courses.{reached-all, reached-held, form-van, sound-van, words-van, van-runs}
use Rattle.planner.proofs.Never.{never-misfit}
use Rattle.fleet.proofs.FormLaws.{form-with-all}
use Rattle.planner.proofs.RowFacts.{rows-ready}
use Rattle.telling.specs.declared.Sums.{Sums}
use Rattle.telling.specs.Told.{told_in, ToldAll, anew, sums_of, KeptIn, KeptAll, KeptSome}
use Rattle.telling.proofs.VanLaws.{told-flag}
use Rattle.dock.specs.Listing.{Reached, line_of}

-- where a listing begins
pub begun : {sheet : List ℕ} {f : Fleet} (t : List ℕ) → f ≡ fresh_of sheet → Reached sheet f t
begun {sheet} t e = subst (λ (f : Fleet). Reached sheet f t) (sym e) (record { first = t; steps = none })

-- what a line tells of a van hangs on its board and its records
abbrev told-by : (sheet : List ℕ) (j : ℕ) → Board → ℕ → List ℕ
told-by sheet j b records = places_of b.sets 64 ∷ records ∷ cond (alive (van_of sheet j) (day_of sheet) (plan_of b)) 1 0 ∷ []

-- the open places of a board of words
places-few : (b : Board) → Words b → places_of b.sets 64 ≤ 4096
unfolding places_of set_of
places-few b w = sum-most 64 64 (λ y. ones (get_or b.sets y 0)) (λ y l. ones-le 64 _ (w.fits y l))

module _ {sheet : List ℕ} {f : Fleet} {t : List ℕ} (z : call_refusal sheet ≡ 0) (p : Reached sheet f t) where
  pub held : HeldAll f
  held = reached-held sheet p.first z p.steps

  pub roomy : form_with_all (n_of sheet) (vans_of sheet) f t ≡ true
  roomy = (reached-all sheet p.first z p.steps).form

  pub formed : in_form_all (n_of sheet) (vans_of sheet) f ≡ true
  formed = (form-with-all (n_of sheet) (vans_of sheet) f t roomy).0

  pub few-stops : (j : ℕ) → j < vans_of sheet → (state_in f j).stops ≤ 64
  few-stops j l = omega (arith, (call-fine sheet z).n-high, (form-van sheet f t held z roomy j l).board.route.most)

  pub few-places : (j : ℕ) → j < vans_of sheet → places_of (state_in f j).sets 64 ≤ 4096
  few-places j l = places-few (board_in f j) (words-van sheet f t held z roomy j l)

  -- at most (n + 1)(n − 2) records a van
  pub few-records : (j : ℕ) → j < vans_of sheet → (state_in f j).records ≤ 4096
  few-records j l =
      let n = n_of sheet in
      let fine = call-fine sheet z in
      let r = records-bound n (admitted sheet j) fine.n-low fine.n-high (trail_in (vans_of sheet) p.first j) (state_in f j) (trail_in (vans_of sheet) t j) (van-runs sheet p.first z p.steps j l) in
      let a : n + 1 ≤ 65 = omega (arith, fine.n-high) in
      let b : n - 2 ≤ 62 = omega (arith, fine.n-high) in
      omega (arith, r, mul-le-mul a b)

  -- the step is not refused before it begins, and no undoing is refused
  pub begins : (word a b : ℕ) → step_of sheet f t word a b ≡ act_all (van_of sheet) (day_of sheet) (vans_of sheet) f t (step_said word a b)
  begins word a b = call-yes sheet f t word a b (call-made sheet f t z roomy)

  pub fits : (word a b : ℕ) → (step_of sheet f t word a b).0.answer ≡ refusal.MISFIT → ⊥
  fits word a b = never-misfit sheet f p.first t word a b z p.steps

  module _ (word a b : ℕ) {k r : ℕ} {f' : Fleet} {t' : List ℕ} (e : step_of sheet f t word a b ≡ acted_all k r f' t') where
    -- refused, a step leaves the fleet and the trail
    stayed : (k ≡ 0 → ⊥) → acted_all k r f' t' ≡ acted_all k 0 f t
    stayed y =
        let q = ap (λ (o : RanAll). o.0.answer) e in
        sym e ∙ unchanged sheet f t word a b (λ n. y (sym q ∙ n)) ∙ ap (λ (i : ℕ). acted_all i 0 f t) q

    took : k ≡ 0 → Took sheet f t word a b r f' t'
    took y = e ∙ ap (λ (i : ℕ). acted_all i r f' t') y

    -- accepted or refused, it leads to such a fleet
    pub goes_on : Reached sheet f' t'
    goes_on =
        decided (eqb k 0)
        (λ y. record { first = p.first; steps = then word a b r p.steps (took (eqb-true k 0 y)) (omega arith) })
        (λ y. subst (λ (o : RanAll). Reached sheet o.0.fleet o.1) (sym (stayed (eqb-false k 0 y))) p)

    -- and where a van's records are those of before, so is its board
    same-board : (j : ℕ) → j < vans_of sheet → (state_in f' j).records ≡ (state_in f j).records → board_in f' j ≡ board_in f j
    same-board j l h =
        decided (eqb k 0)
        (λ y. ⊎_elim
        (λ m. move-still (state_in f j) (state_in f' j) (trail_in (vans_of sheet) t j) (trail_in (vans_of sheet) t' j) (n_of sheet) (held.each j (omega (arith, l, (call-fine sheet z).vans-high))).wide.sets m h)
        (λ s. ap board_of s.0)
        (van-goes sheet f t word a b held (took (eqb-true k 0 y)) j l))
        (λ y. ap (λ (o : RanAll). board_in o.0.fleet j) (stayed (eqb-false k 0 y)))

    -- where its stops are as many as before, its route is that of before
    same_route : (j : ℕ) → j < vans_of sheet → (state_in f' j).stops ≡ (state_in f j).stops → (state_in f' j).route ≡ (state_in f j).route
    same_route j l h =
        decided (eqb k 0)
        (λ y. ⊎_elim
        (λ m. move-route (state_in f j) (state_in f' j) (trail_in (vans_of sheet) t j) (trail_in (vans_of sheet) t' j) (n_of sheet) m h)
        (λ s. ap (λ (q : State). q.route) s.0)
        (van-goes sheet f t word a b held (took (eqb-true k 0 y)) j l))
        (λ y. ap (λ (o : RanAll). (state_in o.0.fleet j).route) (stayed (eqb-false k 0 y)))

    -- and the line tells of a van with the records of before what it told before
    pub told-again : (j : ℕ) → j < vans_of sheet → (state_in f' j).records ≡ (state_in f j).records → told_in sheet f j ≡ told_in sheet f' j
    told-again j l h = ap₂ (told-by sheet j) (sym (same-board j l h)) (sym h)

  -- ---- the line

  module _ {told : List (List ℕ)} (w : ToldAll sheet f told) where
    -- one number of van j's row
    entry : (i j : ℕ) → j < vans_of sheet → get_or (get_or told j []) i 0 ≡ get_or (told_in sheet f j) i 0
    entry i j l = ap (λ (o : List ℕ). get_or o i 0) (w.each j l)

    -- the open places in all are those of the vans
    places-all : sum_below (vans_of sheet) (λ j. get_or (get_or told j []) 0 0) ≡ (count_of sheet f).places
    unfolding count_of ask_refusal or_else places_all
    places-all = rw (z, formed) (sum_same (vans_of sheet) _ _ (entry 0))

    -- and so are the records
    records-all : sum_below (vans_of sheet) (λ j. get_or (get_or told j []) 1 0) ≡ records_all (vans_of sheet) f
    unfolding records_all
    records-all = sum_same (vans_of sheet) _ _ (entry 1)

    -- the fleet is alive if each van is and every ward that must go somewhere is served
    alive-all-is : all_below (vans_of sheet) (λ j. not (eqb (get_or (get_or told j []) 2 0) 0)) && all_served (vans_of sheet) f ≡ (judge_of sheet f).alive
    unfolding judge_of ask_refusal or_else
    alive-all-is =
        rw (z, formed)
        (ap (λ (b : Bool). b && all_served (vans_of sheet) f) (below-same (vans_of sheet) _ _ (λ j l. ap (λ (k : ℕ). not (eqb k 0)) (entry 2 j l) ∙ told-flag _))
        ∙ sym (alive-all (day_of sheet) (vans_of sheet) f (call-fine sheet z).vans-low (sound-van sheet f t held z roomy) (words-van sheet f t held z roomy) (van_of sheet)))

    -- what is told of a van stays small
    pub told-few : (j : ℕ) → j < vans_of sheet → (get_or (get_or told j []) 0 0 ≤ 4096) × (get_or (get_or told j []) 1 0 ≤ 4096)
    told-few j l = (omega (arith, entry 0 j l, few-places j l), omega (arith, entry 1 j l, few-records j l))

    pub line-is : {v : ℕ} {sums : Sums} (i k r : ℕ) → v ≡ vans_of sheet → sums ≡ sums_of v told f
        → step_line (i + 1) k sums.places sums.records r (cond sums.alive 1 0) ≡ line_of sheet i (record { answer = k; rounds = r; fleet = f })
    unfolding line_of
    line-is i k r e s = rw (s, e, sym places-all, sym records-all, sym alive-all-is) refl

-- ---- where no van is told anew

-- each has the records that were told
none-anew : (v : ℕ) (figures before : List (List ℕ)) → any_below v (anew false figures before) ≡ false
    → (j : ℕ) → j < v → (figures_in (get_or figures j [])).records ≡ get_or (get_or before j []) 1 0
none-anew v figures before e j l =
    decided (eqb (figures_in (get_or figures j [])).records (get_or (get_or before j []) 1 0)) (eqb-true _ _)
    (λ z. absurd (false-true (sym e ∙ T→true (any_below v (anew false figures before)) (any-below-i v j (anew false figures before) l (true→T (anew false figures before j) (rw z refl))))))

-- the same boards serve the same wards
served-same : (v : ℕ) (f g : Fleet) → 1 ≤ v → ((j : ℕ) → j < v → board_in f j ≡ board_in g j) → all_served v f ≡ all_served v g
unfolding all_served
served-same v f g some same =
    below-same 64 _ _ (λ y l. λ u. not (has (same 0 some u).must y) || any-below-same v (λ j. has_ward (board_in f j) y) (λ j. has_ward (board_in g j) y) (λ j h. ap (λ (b : Board). has_ward b y) (same j h)) u)

-- ---- a fleet in rows

module _ {sheet : List ℕ} {at : Layout} {t : List ℕ} (z : call_refusal sheet ≡ 0) (l : Laid sheet at) (routes sets levels figures : List (List ℕ)) (figured : Figured figures)
    (p : Reached sheet (fleet_with routes sets levels figures) t) where
  -- what the verdict and the line ask of its rows
  pub readied : ReadyAll sheet at routes sets figures
  readied = rows-ready z l routes sets levels figures figured (held z p) (formed z p)

  -- what the steps ask of them
  pub known : Rows routes × Rows sets × Rows levels → KnownRows sheet at routes sets levels figures t
  known r = record { clear = z; laid = l; form = roomy z p; held = held z p; rows = r; figured = figured }

  pub row-stops : (j : ℕ) → j < vans_of sheet → (figures_in (get_or figures j [])).stops ≤ 64
  row-stops j h = omega (arith, ap (λ (s : State). s.stops) (state-of (row_state routes sets levels figures) j (omega (arith, h, l.fine.vans-high))), few-stops z p j h)

  -- what the sums ask of what is told
  pub summing : {told : List (List ℕ)} → ToldAll sheet (fleet_with routes sets levels figures) told
      → (at.vans ≤ most_vans) × ((j : ℕ) → j < at.vans → (get_or (get_or told j []) 0 0 ≤ 4096) × (get_or (get_or told j []) 1 0 ≤ 4096))
  summing w = (omega (arith, l.vans, l.fine.vans-high), λ j h. told-few z p w j (omega (arith, h, l.vans)))

  -- ---- a step more

  module _ {told : List (List ℕ)} (word a b : ℕ) {k r : ℕ} {t' : List ℕ} (routes' sets' levels' figures' : List (List ℕ))
      (e : step_of sheet (fleet_with routes sets levels figures) t word a b ≡ acted_all k r (fleet_with routes' sets' levels' figures') t') (w : ToldAll sheet (fleet_with routes sets levels figures) told) where
    -- the state of a van in rows, before the step and behind it
    row_before : (j : ℕ) → j < vans_of sheet → state_in (fleet_with routes sets levels figures) j ≡ row_state routes sets levels figures j
    row_before j h = state-of (row_state routes sets levels figures) j (omega (arith, h, l.fine.vans-high))

    row-behind : (j : ℕ) → j < vans_of sheet → state_in (fleet_with routes' sets' levels' figures') j ≡ row_state routes' sets' levels' figures' j
    row-behind j h = state-of (row_state routes' sets' levels' figures') j (omega (arith, h, l.fine.vans-high))

    -- a van has the records that were told
    abbrev As-told : ℕ → Type 0
    As-told j = (figures_in (get_or figures' j [])).records ≡ get_or (get_or told j []) 1 0

    -- then they are those of before
    records-on : (j : ℕ) → j < vans_of sheet → As-told j → (state_in (fleet_with routes' sets' levels' figures') j).records ≡ (state_in (fleet_with routes sets levels figures) j).records
    records-on j h same = ap (λ (s : State). s.records) (row-behind j h) ∙ same ∙ ap (λ (o : List ℕ). get_or o 1 0) (w.each j h)

    -- it is told as before, and its board is that of before
    pub told-on : (j : ℕ) → j < vans_of sheet → As-told j → get_or told j [] ≡ told_in sheet (fleet_with routes' sets' levels' figures') j
    told-on j h same = w.each j h ∙ told-again z p word a b e j h (records-on j h same)

    board-on : (j : ℕ) → j < vans_of sheet → As-told j → board_in (fleet_with routes sets levels figures) j ≡ board_in (fleet_with routes' sets' levels' figures') j
    board-on j h same = sym (same-board z p word a b e j h (records-on j h same))

    -- and a course that was kept is that of a van with as many stops, or with the records that were told
    pub kept_on : {jobs : List ℕ} {ways : List (List ℕ)} → KeptAll sheet jobs routes figures ways → KeptSome sheet jobs routes' figures' told ways
    kept_on {jobs} {ways} q = record { stopped = λ j h same. as_many j h (sym same ∙ (q.each j h).count); recorded = λ j h same. as_many j h (stops j h same) }
      where
        as_many : (j : ℕ) → j < vans_of sheet → (figures_in (get_or figures' j [])).stops ≡ (figures_in (get_or figures j [])).stops → KeptIn sheet jobs routes' figures' ways j
        as_many j h same =
            let s = ap (λ (s : State). s.stops) (row-behind j h) ∙ same ∙ ap (λ (s : State). s.stops) (sym (row_before j h)) in
            let way = ap (λ (s : State). s.route) (sym (row-behind j h)) ∙ same_route z p word a b e j h s ∙ ap (λ (s : State). s.route) (row_before j h) in
            rw (way, same) (q.each j h)

        stops : (j : ℕ) → j < vans_of sheet → As-told j → (figures_in (get_or figures' j [])).stops ≡ (figures_in (get_or figures j [])).stops
        stops j h same = ap (λ (s : State). s.stops) (sym (row-behind j h)) ∙ ap (λ (b : Board). b.stops) (sym (board-on j h same)) ∙ ap (λ (s : State). s.stops) (row_before j h)

    -- where no van is to be told anew, all are told as before, and so are the sums; and their courses are those that were kept
    pub still : {sums : Sums} {jobs : List ℕ} {ways : List (List ℕ)} → any_below at.vans (anew false figures' told) ≡ false
        → sums ≡ sums_of at.vans told (fleet_with routes sets levels figures) → KeptAll sheet jobs routes figures ways
        → ToldAll sheet (fleet_with routes' sets' levels' figures') told × (sums ≡ sums_of at.vans told (fleet_with routes' sets' levels' figures'))
        × KeptAll sheet jobs routes' figures' ways
    still y s q = (
      record { eight = w.eight; each = λ j h. told-on j h (as-told j h) },
      s ∙ ap with-served (rw l.vans (served-same (vans_of sheet) _ _ l.fine.vans-low (λ j h. board-on j h (as-told j h)))),
      record { rows = q.rows; each = λ j h. (kept_on q).recorded j h (as-told j h) },
    )
      where
        as-told : (j : ℕ) → j < vans_of sheet → As-told j
        as-told j h = none-anew at.vans figures' told y j (omega (arith, h, l.vans))

        with-served : Bool → Sums
        with-served b = record {
          places = sum_below at.vans (λ j. get_or (get_or told j []) 0 0);
          records = sum_below at.vans (λ j. get_or (get_or told j []) 1 0);
          alive = all_below at.vans (λ j. not (eqb (get_or (get_or told j []) 2 0) 0)) && b;
        }

-- eight rows that have a held fleet are rows of 64
pub rows-held : (routes sets levels figures : List (List ℕ)) → HeldAll (fleet_with routes sets levels figures) → EightRows routes sets levels figures
    → Rows routes × Rows sets × Rows levels × Figured figures
rows-held routes sets levels figures h e = (
  record { eight = e.0; wide = λ j l. (at j l).wide.route },
  record { eight = e.1; wide = λ j l. (at j l).wide.sets },
  record { eight = e.2; wide = λ j l. (at j l).levels },
  e.3,
)
  where
    at : (j : ℕ) → j < most_vans → Held (row_state routes sets levels figures j)
    at j l = subst Held (state-of (row_state routes sets levels figures) j l) (h.each j l)

-- a step of the listing, done in place: no undoing is refused, so the arrays hold what it gives
pub step-did : {sheet : List ℕ} {f : Fleet} {t : List ℕ} (z : call_refusal sheet ≡ 0) (p : Reached sheet f t) (word a b : ℕ) {said : Step} → said ≡ step_said word a b
    → {v : ℕ} {o : Result ℕ Refusal} {routes sets levels figures : List (List ℕ)} {t' : List ℕ}
    → Did said.kind v (act_all (van_of sheet) (day_of sheet) (vans_of sheet) f t said) o routes sets levels figures t'
    → (step_of sheet f t word a b ≡ ran_all o routes sets levels figures t') × (Rows routes × Rows sets × Rows levels × Figured figures)
step-did {sheet} {f} {t} z p word a b is {o = o} {routes} {sets} {levels} {figures} {t'} did =
    let same = begins z p word a b ∙ ap (act_all (van_of sheet) (day_of sheet) (vans_of sheet) f t) (sym is) in
    let e : step_of sheet f t word a b ≡ ran_all o routes sets levels figures t' =
    same ∙ did.whole (λ q l y. fits z p word a b (ap (λ (r : RanAll). r.0.answer) same ∙ sym did.answer ∙ y)) in
    (e, rows-held routes sets levels figures (held z (goes_on z p word a b e)) did.eight)
