-- What a line tells of the vans, van by van, and what is kept of their routes.
use Prim.Native.Nat.{ℕ, ◌+◌, ◌<◌, ◌≤◌}
use mathlib.Core.Path.{◌≡◌, refl, sym, ap, subst, ◌∙◌}
use mathlib.Core.Logic.{◌≢◌}
use mathlib.Core.Bool.{Bool, true, false, cond, not, ◌||◌}
use mathlib.Core.List.{List, [], ◌∷◌}
use native.Mathlib.Omega.{arith}
use lib.ListN.{length, get_or, set, take, replicate, get_or-replicate, length-set, length-replicate}
use lib.Seq.{get_or-set_same, get_or-set_other}
use lib.Dec.{eqb, ltb}
use borrow.Author.Tests.{eqb-true, eqb-false, lt-ltb, le-ltb}
use Rattle.laws.proofs.Logic.{decided}
use Rattle.rules.specs.Numbers.{most_vans}
use Rattle.rules.specs.Verdict.{alive}
use Rattle.rules.specs.declared.Van.{Van}
use Rattle.bits.proofs.Members.{false-true}
use Rattle.sheet.specs.Section.{vans_of}
use Rattle.day.specs.Tell.{day_of, van_of}
use Rattle.board.specs.Board.{places_of}
use Rattle.board.specs.declared.State.{State}
use Rattle.stands.specs.Stands.{plan_of}
use Rattle.van.specs.Act.{plan_in}
use Rattle.fleet.specs.Rows.{figures_in, row_state, row_board, fleet_with, RowsOf}
use Rattle.fleet.proofs.FleetLaws.{state-of}
use Rattle.laws.proofs.Turned.{Turned, ltb-more}
use Rattle.verdict.specs.Verdict.{Coursed}
use Rattle.verdict.specs.declared.Course.{Course}
use Rattle.telling.specs.Told.{told_in, ToldAll, anew, course_in, Kept, KeptIn}

-- a row of three, each entry written
pub told-written : (l : List ℕ) (a b c : ℕ) → length l ≡ 3 → set (set (set l 0 a) 1 b) 2 c ≡ a ∷ b ∷ c ∷ []
told-written [] a b c h = absurd (omega arith)
told-written (x ∷ []) a b c h = absurd (omega arith)
told-written (x ∷ y ∷ []) a b c h = absurd (omega arith)
told-written (x ∷ y ∷ z ∷ []) a b c h = refl
told-written (x ∷ y ∷ z ∷ w ∷ l) a b c h = absurd (omega arith)

-- a row of four, each entry written
way-written : (l : List ℕ) (a b c d : ℕ) → length l ≡ 4 → set (set (set (set l 0 a) 1 b) 2 c) 3 d ≡ a ∷ b ∷ c ∷ d ∷ []
way-written [] a b c d h = absurd (omega arith)
way-written (x ∷ []) a b c d h = absurd (omega arith)
way-written (x ∷ y ∷ []) a b c d h = absurd (omega arith)
way-written (x ∷ y ∷ z ∷ []) a b c d h = absurd (omega arith)
way-written (x ∷ y ∷ z ∷ w ∷ []) a b c d h = refl
way-written (x ∷ y ∷ z ∷ w ∷ v ∷ l) a b c d h = absurd (omega arith)

-- 1 or 0 for a flag, read back
pub told-flag : (b : Bool) → not (eqb (cond b 1 0) 0) ≡ b
told-flag true = refl
told-flag false = refl

-- before anything is told or kept
pub rows_none : (w : ℕ) → RowsOf w (replicate most_vans (replicate w 0))
rows_none w =
    let none : List ℕ = replicate w 0 in
    record { eight = length-replicate most_vans none; wide = λ j l. ap length (get_or-replicate most_vans j none [] l) ∙ length-replicate w 0 }

-- where neither every one is asked for nor the number is another
pub as_before_lem : (every : Bool) (a b : ℕ) → every || not (eqb a b) ≡ false → (every ≡ false) × (a ≡ b)
as_before_lem true a b e = absurd (false-true (sym e))
as_before_lem false a b e = (refl, decided (eqb a b) (eqb-true a b) (λ z. absurd (false-true (sym (rw z at e)))))

-- what is told of row j
abbrev pub told_row : List ℕ → List (List ℕ) → List (List ℕ) → List (List ℕ) → ℕ → List ℕ
told_row sheet routes sets figures j =
    places_of (get_or sets j []) 64 ∷ (figures_in (get_or figures j [])).records ∷ cond (alive (van_of sheet j) (day_of sheet) (plan_of (row_board routes sets figures j))) 1 0 ∷ []

-- what stands for row j once it is passed
abbrev pub told_or : List ℕ → List (List ℕ) → List (List ℕ) → List (List ℕ) → Bool → List (List ℕ) → ℕ → List ℕ
told_or sheet routes sets figures every before j = cond (anew every figures before j) (told_row sheet routes sets figures j) (get_or before j [])

-- an entry that is to be what it was is left
pub turned-kept : {A : Type 0} {n : ℕ} {f g : ℕ → A} {d : A} {j : ℕ} {l : List A} → Turned n f g d j l → j < n → g j ≡ f j → Turned n f g d (j + 1) l
turned-kept {n = n} {f = f} {g = g} {d = d} {j = j} {l = l} p h e =
    record {
      long = p.long;
      at = λ k b.
          decided (eqb k j)
          (λ z. rw (eqb-true k j z, lt-ltb j (j + 1) (omega arith)) (rw (le-ltb j j (omega arith)) at (p.at j h) ∙ e))
          (λ z. p.at k b ∙ ap (λ (t : Bool). cond t (f k) (g k)) (ltb-more k j (eqb-false k j z)));
    }

-- the entry at hand is still what it was
pub turned-ahead : {A : Type 0} {n : ℕ} {f g : ℕ → A} {d : A} {j : ℕ} {l : List A} → Turned n f g d j l → j < n → get_or l j d ≡ g j
turned-ahead {j = j} p h = rw (le-ltb j j (omega arith)) at (p.at j h)

module _ (sheet : List ℕ) (routes sets figures : List (List ℕ)) (every : Bool) (before : List (List ℕ)) where
  pub told-anew : (j : ℕ) → anew every figures before j ≡ true → told_row sheet routes sets figures j ≡ told_or sheet routes sets figures every before j
  told-anew j e = rw e refl

  pub told-left : (j : ℕ) → anew every figures before j ≡ false → get_or before j [] ≡ told_or sheet routes sets figures every before j
  told-left j e = rw e refl

  -- whatever is told, the rows are of three
  pub told-rows : {told : List (List ℕ)} {k : ℕ} → RowsOf 3 before → Turned most_vans (told_or sheet routes sets figures every before) (λ j. get_or before j []) [] k told → RowsOf 3 told
  told-rows {k = k} r p = record { eight = p.long; wide = λ j l. ap length (p.at j l) ∙ decided (ltb j k) (λ e. rw e (either j l)) (λ e. rw e (r.wide j l)) }
    where
      either : (j : ℕ) → j < most_vans → length (told_or sheet routes sets figures every before j) ≡ 3
      either j l = decided (anew every figures before j) (λ e. rw e refl) (λ e. rw e (r.wide j l))

  -- a row is told as the fleet of the rows has it
  row_told : (levels : List (List ℕ)) (j : ℕ) → j < most_vans → told_row sheet routes sets figures j ≡ told_in sheet (fleet_with routes sets levels figures) j
  row_told levels j l =
      ap (λ (s : State). places_of s.sets 64 ∷ s.records ∷ cond (alive (van_of sheet j) (day_of sheet) (plan_in s)) 1 0 ∷ []) (sym (state-of (row_state routes sets levels figures) j l))

  -- every van is told
  pub all_told : {told : List (List ℕ)} {k : ℕ} (levels : List (List ℕ)) → k ≡ vans_of sheet → k ≤ most_vans
      → Turned most_vans (told_or sheet routes sets figures every before) (λ j. get_or before j []) [] k told
      → ((j : ℕ) → j < vans_of sheet → every ≡ false → (figures_in (get_or figures j [])).records ≡ get_or (get_or before j []) 1 0 → get_or before j [] ≡ told_in sheet (fleet_with routes sets levels figures) j)
      → ToldAll sheet (fleet_with routes sets levels figures) told
  all_told {told} {k} levels e most p same = record { eight = p.long; each = λ j l. passed j (omega (arith, e, l)) ∙ known j l }
    where
      passed : (j : ℕ) → j < k → get_or told j [] ≡ told_or sheet routes sets figures every before j
      passed j l = rw (lt-ltb j k l) at (p.at j (omega (arith, l, most)))

      known : (j : ℕ) → j < vans_of sheet → told_or sheet routes sets figures every before j ≡ told_in sheet (fleet_with routes sets levels figures) j
      known j l =
          decided (anew every figures before j)
          (λ y. rw y (row_told levels j (omega (arith, e, l, most))))
          (λ y. let b = as_before_lem every _ _ y in rw y (same j l b.0 b.1))

-- ---- the courses of the routes

-- a course written into a row is kept there
pub way-kept : {sheet jobs : List ℕ} {van : Van} {route : List ℕ} {stops : ℕ} (l : List ℕ) (c : Course) {k : ℕ} → length l ≡ 4 → k ≡ cond c.keeps 1 0
    → Coursed van (day_of sheet) jobs (take stops route) c
    → Kept sheet jobs van route stops (set (set (set (set l 0 stops) 1 k) 2 c.on) 3 c.called) × (c ≡ course_in (set (set (set (set l 0 stops) 1 k) 2 c.on) 3 c.called))
way-kept {sheet} {jobs} {van} {route} {stops} l c h e p =
    rw (way-written l stops _ c.on c.called h, e)
    (record { long = refl; count = refl; course = subst (Coursed van (day_of sheet) jobs (take stops route)) back p }, back)
  where
    back : c ≡ course_in (stops ∷ cond c.keeps 1 0 ∷ c.on ∷ c.called ∷ [])
    back = λ u. record { keeps = sym (told-flag c.keeps) u; on = c.on; called = c.called }

-- the first j vans have their courses kept, the rows of the others are as they were
pub record KeptBelow (sheet jobs : List ℕ) (routes figures before : List (List ℕ)) (j : ℕ) (ways : List (List ℕ)) : Type 0 where
  pub rows : RowsOf 4 ways
  pub each : (k : ℕ) → k < j → KeptIn sheet jobs routes figures ways k
  pub ahead : (k : ℕ) → j ≤ k → get_or ways k [] ≡ get_or before k []

module _ {sheet jobs : List ℕ} {routes figures before : List (List ℕ)} where
  -- the van at hand is still as it was: what is known of its row then is known now
  pub kept-ahead : {j : ℕ} {ways : List (List ℕ)} → KeptBelow sheet jobs routes figures before j ways → KeptIn sheet jobs routes figures before j → KeptIn sheet jobs routes figures ways j
  kept-ahead {j} h = subst (Kept sheet jobs (van_of sheet j) (get_or routes j []) (figures_in (get_or figures j [])).stops) (sym (h.ahead j (omega arith)))

  -- it is passed over
  pub kept-skip : {j : ℕ} {ways : List (List ℕ)} → KeptBelow sheet jobs routes figures before j ways → KeptIn sheet jobs routes figures before j → KeptBelow sheet jobs routes figures before (j + 1) ways
  kept-skip {j} h p = record {
    rows = h.rows;
    each = λ k l. decided (eqb k j) (λ z. rw (eqb-true k j z) (kept-ahead h p)) (λ z. h.each k (omega (arith, l, eqb-false k j z)));
    ahead = λ k l. h.ahead k (omega (arith, l));
  }

  -- its row is written
  pub kept_more : {j : ℕ} {ways : List (List ℕ)} (way : List ℕ) → KeptBelow sheet jobs routes figures before j ways → j < most_vans
      → Kept sheet jobs (van_of sheet j) (get_or routes j []) (figures_in (get_or figures j [])).stops way → KeptBelow sheet jobs routes figures before (j + 1) (set ways j way)
  kept_more {j} {ways} way h l p = record {
    rows = record {
      eight = length-set ways j way ∙ h.rows.eight;
      wide = λ k b. decided (eqb k j) (λ z. rw (eqb-true k j z, here) p.long) (λ z. rw (there k (eqb-false k j z)) (h.rows.wide k b));
    };
    each = λ k b. decided (eqb k j) (λ z. rw (eqb-true k j z, here) p) (λ z. rw (there k (eqb-false k j z)) (h.each k (omega (arith, b, eqb-false k j z))));
    ahead = λ k b. there k (omega (arith, b)) ∙ h.ahead k (omega (arith, b));
  }
    where
      here : get_or (set ways j way) j [] ≡ way
      here = get_or-set_same ways j way [] (subst (λ (m : ℕ). j < m) (sym h.rows.eight) l)

      there : (k : ℕ) → k ≢ j → get_or (set ways j way) k [] ≡ get_or ways k []
      there k n = get_or-set_other ways j k way [] n
