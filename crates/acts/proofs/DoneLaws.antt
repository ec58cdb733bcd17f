-- What the code has done in place is the step: a refusal, the turns of all vans, stepping back, a step of one van.
use mathlib.Core.Path.{◌≡◌, refl, sym, ap, ap₂, subst, ◌∙◌}
use mathlib.Core.Bool.{Bool, true, false, ◌&&◌, and-true}
use mathlib.Core.List.{List, []}
use mathlib.Core.Logic.{◌≢◌}
use Prim.Native.Nat.{ℕ, ◌+◌, ◌*◌, ◌/◌, ◌-◌, ◌≤◌, ◌<◌}
use native.Mathlib.Omega.{arith}
use lib.ListN.{length, get_or, take, drop}
use lib.Dec.{eqb, ltb}
use borrow.Author.Tests.{eqb-true, eqb-false, ltb-true, ltb-false}
use Rattle.laws.specs.Basic.{all_below, unless}
use Rattle.laws.proofs.Logic.{decided}
use Rattle.laws.proofs.Below.{below-same, below-make}
use Rattle.bits.proofs.Members.{false-true}
use Rattle.rules.specs.Numbers.{refusal, kinds, most_vans}
use Rattle.rules.specs.Day.{Day}
use Rattle.rules.specs.declared.Van.{Van}
use Rattle.rules.specs.declared.Step.{Step}
use Rattle.sheet.specs.Section.{n_of, vans_of}
use Rattle.sheet.specs.declared.Layout.{Layout}
use Rattle.day.specs.Tell.{van_of, day_of}
use Rattle.board.specs.Board.{board_of}
use Rattle.board.specs.Held.{Sound}
use Rattle.board.proofs.FormLaws.{in-form, form-with}
use Rattle.board.specs.declared.State.{State}
use Rattle.records.specs.Trail.{room_of}
use Rattle.trail.specs.Steps.{Ran, rounds_of, undo_level}
use Rattle.van.specs.Known.{Known}
use Rattle.van.proofs.Ready.{settle-rests}
use Rattle.fleet.specs.Fleet.{state_in, board_in, share_of, trail_in}
use Rattle.fleet.specs.Form.{shares_none, form_with_all}
use Rattle.fleet.specs.Rows.{figures_in, row_state, row_board, fleet_with}
use Rattle.fleet.specs.Wards.{Nodes}
use Rattle.fleet.specs.declared.Fleet.{Fleet}
use Rattle.fleet.proofs.FleetLaws.{state-of, fleet-eight, fleet-same, room-part}
use Rattle.fleet.proofs.FormLaws.{apart-shares}
use Rattle.fleet.proofs.WardLaws.{sound-nodes}
use Rattle.turns.specs.Together.{RanAll, acted_all, unless_barred}
use Rattle.turns.specs.Turn.{turns_of, EightRows}
use Rattle.acts.specs.Act.{back_bar, van_act, act_all}
use Rattle.acts.specs.Known.{KnownRows, Did}
use Rattle.std.specs.Prelude.{Result}
use Rattle.rules.specs.Refused.{number_in}
use Rattle.rules.specs.declared.Refusal.{Refusal}
use Rattle.turns.proofs.TogetherLaws.{Reads, barred, unbarred, trails-same, alone-is}
use Rattle.turns.proofs.PutLaws.{Spot, spot-at, part-lent}
use Rattle.turns.proofs.EachLaws.{turn_in}
use Rattle.acts.proofs.KnownLaws.{form-depth, known-held, known-form, known-eight}
use Rattle.acts.proofs.ActLaws.{van-alone, act-back, back-asks, back_fits, back-stays, back-trail, back-sound}
use Rattle.acts.proofs.Moves.{turns-read, turn-back}

-- ---- an outcome without a round

pub did_of : {k v : ℕ} {want : RanAll} {o : Result ℕ Refusal} {a : ℕ} (routes sets levels figures : List (List ℕ)) (t : List ℕ)
    → (number_in o ≡ a) × (rounds_of o ≡ 0) → EightRows routes sets levels figures → want ≡ acted_all a 0 (fleet_with routes sets levels figures) t
    → Did k v want o routes sets levels figures t
did_of routes sets levels figures t r rows e = record {
  answer = r.0 ∙ sym (ap (λ (w : RanAll). w.0.answer) e);
  whole = λ n. e ∙ ap₂ (λ (a k : ℕ). acted_all a k (fleet_with routes sets levels figures) t) (sym r.0) (sym r.1);
  trail = λ z. sym (ap (λ (w : RanAll). w.1) e);
  eight = rows;
}

-- 20: the answer and the trail are the step's; in several vans the arrays may be half undone
pub did-misfit : {k v : ℕ} {want : RanAll} {o : Result ℕ Refusal} (routes sets levels figures : List (List ℕ)) {t t' : List ℕ} {f : Fleet} → k ≡ kinds.BACK → 1 ≤ v
    → (number_in o ≡ refusal.MISFIT) × (rounds_of o ≡ 0) → EightRows routes sets levels figures → t ≡ t' → want ≡ acted_all refusal.MISFIT 0 f t
    → (v ≡ 1 → fleet_with routes sets levels figures ≡ f) → Did k v want o routes sets levels figures t'
did-misfit {v = v} {want} {o} routes sets levels figures {t} {t'} {f} kind some r rows same e one = record {
  answer = r.0 ∙ sym (ap (λ (w : RanAll). w.0.answer) e);
  whole = λ n. decided (eqb v 1)
      (λ z. e ∙ ap₂ (λ (g : Fleet) (u : List ℕ). acted_all refusal.MISFIT 0 g u) (sym (one (eqb-true v 1 z))) same
      ∙ ap₂ (λ (a k : ℕ). acted_all a k (fleet_with routes sets levels figures) t') (sym r.0) (sym r.1))
      (λ z. absurd (n kind (omega (arith, some, eqb-false v 1 z)) r.0));
  trail = λ z. sym same ∙ sym (ap (λ (w : RanAll). w.1) e);
  eight = rows;
}

-- ---- by the sheet's own numbers

-- what the loop over the vans ensures
abbrev pub Turned : ℕ → ℕ → Fleet → List ℕ → Step → RanAll → Bool → Type 0
Turned n v f t step after fits = (turns_of n v f t step ≡ after) × (fits ≡ all_below v (λ j. eqb (turn_in n v step f t j).0.answer 0))

pub turned_as : {n v n' v' : ℕ} (f : Fleet) (t : List ℕ) (step : Step) (after : RanAll) (fits : Bool) → n ≡ n' → v ≡ v' → Turned n v f t step after fits → Turned n' v' f t step after fits
turned_as {n} {v} {n'} {v'} f t step after fits p q h =
    subst (λ (w : ℕ). Turned n' w f t step after fits) q (subst (λ (m : ℕ). Turned m v f t step after fits) p h)

-- a van's share
pub share-as : {vans v : ℕ} (t : List ℕ) → vans ≡ v → length t / vans ≡ share_of v t
unfolding share_of
share-as t e = ap (λ (v : ℕ). length t / v) e

pub room_as : {vans v : ℕ} (t : List ℕ) → vans ≡ v → (j : ℕ) → j < v → room_of (trail_in v t j) ≡ length t / vans / 2
room_as {vans} {v} t e j h = room-part v t j h ∙ ap (λ (k : ℕ). k / 2) (sym (share-as t e))

-- the levels of the first van, in its row
pub depth-row : (routes sets levels figures : List (List ℕ)) → (state_in (fleet_with routes sets levels figures) 0).depth ≡ (figures_in (get_or figures 0 [])).depth
depth-row routes sets levels figures = ap (λ (s : State). s.depth) (state-of (row_state routes sets levels figures) 0 (omega arith))

-- ---- stepping back in all vans

module _ (vans : ℕ → Van) (d : Day) (v : ℕ) (f : Fleet) (t : List ℕ) (step : Step) (kind : step.kind ≡ kinds.BACK) (most : v ≤ most_vans)
    (form : form_with_all d.n v f t ≡ true) (deep : 1 ≤ (state_in f 0).depth) (f' : Fleet) (t' : List ℕ) (fits : Bool) (e : Turned d.n v f t step (acted_all 0 0 f' t') fits) where
  -- every turn is accepted just if every van's records fit
  back-flag : fits ≡ all_below v (λ j. (undo_level d.n (state_in f j) (trail_in v t j)).0)
  back-flag =
      e.1 ∙ below-same v _ _ (λ j h. ap (λ (r : Ran). eqb r.0.answer 0) (turn-back d.n step j (state_in f j) (trail_in v t j) kind)
      ∙ back_fits d.n (state_in f j) (trail_in v t j) (omega (arith, deep, form-depth d.n v f t form most j h)))

  back-bar : back_bar d.n v f t (turns_of d.n v f t step).0.fleet ≡ unless (fits && shares_none d.n v f') refusal.MISFIT
  back-bar =
      back-asks d.n v f t (turns_of d.n v f t step).0.fleet deep
      ∙ ap₂ (λ (a : Bool) (g : Fleet). unless (a && shares_none d.n v g) refusal.MISFIT) (sym back-flag) (ap (λ (r : RanAll). r.0.fleet) e.0)

  pub back-same : t ≡ t'
  back-same =
      let r = (turns-read d.n v f t step most e.0).1 in
      trails-same v t t' r.long r.over
      (λ j h. r.trails j h ∙ ap (λ (x : Ran). x.1) (turn-back d.n step j (state_in f j) (trail_in v t j) kind) ∙ back-trail d.n (state_in f j) (trail_in v t j))

  pub back-board : (j : ℕ) → j < v → Sound d.n (board_in f j) → Sound d.n (board_in f' j)
  back-board j h s =
      subst (λ (x : State). Sound d.n (board_of x))
      (sym ((turns-read d.n v f t step most e.0).1.states j h ∙ ap (λ (x : Ran). x.0.state) (turn-back d.n step j (state_in f j) (trail_in v t j) kind)))
      (back-sound d.n (state_in f j) (trail_in v t j) s)

  -- one van alone shares nothing, so it is refused for its records, and stays
  pub back_one : v ≡ 1 → length f.vans ≡ most_vans → fits && shares_none d.n v f' ≡ false → f' ≡ f
  back_one one eight p = fleet-same f' f reads.eight eight (λ j h. decided (ltb j v) (λ q. stays j (ltb-true j v q)) (λ q. reads.spare j (ltb-false j v q) h))
    where
      reads : Reads v f t (turn_in d.n v step f t) f' t'
      reads = (turns-read d.n v f t step most e.0).1

      alone : shares_none d.n v f' ≡ true
      alone = apart-shares d.n v f' (λ i j y l h n. absurd (n (omega (arith, one, l, h))))

      unfit : all_below v (λ j. (undo_level d.n (state_in f j) (trail_in v t j)).0) ≡ false
      unfit = sym back-flag ∙ sym (and-true fits) ∙ ap (λ (b : Bool). fits && b) (sym alone) ∙ p

      stays : (j : ℕ) → j < v → state_in f' j ≡ state_in f j
      stays j h =
          reads.states j h ∙ ap (λ (x : Ran). x.0.state) (turn-back d.n step j (state_in f j) (trail_in v t j) kind)
          ∙ back-stays d.n (state_in f j) (trail_in v t j) (omega (arith, deep, form-depth d.n v f t form most j h))
          (decided (undo_level d.n (state_in f j) (trail_in v t j)).0
          (λ q. absurd (false-true (sym unfit ∙ below-make v _ (λ i l. subst (λ (k : ℕ). (undo_level d.n (state_in f k) (trail_in v t k)).0 ≡ true) (omega (arith, one, h, l)) q)))) (λ q. q))

  -- accepted
  pub back-yes : fits ≡ true → shares_none d.n v f' ≡ true → act_all vans d v f t step ≡ acted_all 0 0 f' t'
  back-yes p q = act-back vans d v f t step kind ∙ unbarred _ f t (turns_of d.n v f t step) (back-bar ∙ rw (p, q) refl) ∙ e.0

  -- a record does not fit, or the rule between vans is broken
  pub back-no : fits && shares_none d.n v f' ≡ false → act_all vans d v f t step ≡ acted_all refusal.MISFIT 0 f t
  back-no p =
      let b : back_bar d.n v f t (turns_of d.n v f t step).0.fleet ≡ refusal.MISFIT = back-bar ∙ rw p refl in
      act-back vans d v f t step kind ∙ ap (λ (k : ℕ). unless_barred k f t (turns_of d.n v f t step)) b ∙ barred refusal.MISFIT f t (turns_of d.n v f t step) (λ z. omega (arith, z))

-- ---- what is known of a van

module _ {sheet : List ℕ} {at : Layout} {routes sets levels figures : List (List ℕ)} {t : List ℕ} (k : KnownRows sheet at routes sets levels figures t) where
  pub known-sound : (j : ℕ) → j < vans_of sheet → Sound (n_of sheet) (board_in (fleet_with routes sets levels figures) j)
  known-sound j h =
      let s = state_in (fleet_with routes sets levels figures) j in
      let held = known-held k j h in
      record { small = k.laid.fine.n-high; wide = held.wide; form = (in-form (n_of sheet) s k.laid.fine.n-high held.wide (form-with (n_of sheet) s _ (known-form k j h)).0).board }

  -- its part of the trail
  pub known-spot : (j : ℕ) → Spot (vans_of sheet) t j (j * (length t / at.vans)) (j * (length t / at.vans) + length t / at.vans)
  known-spot j = spot-at (vans_of sheet) (length t / at.vans) j t (share-as t k.laid.vans)

  -- what the turns of all ask
  pub known-shares : (1 ≤ at.vans) × (at.vans ≤ most_vans) × (length t / at.vans ≡ share_of at.vans t) × EightRows routes sets levels figures
  known-shares = (omega (arith, k.laid.vans, k.laid.fine.vans-low), omega (arith, k.laid.vans, k.laid.fine.vans-high), share-as t refl, known-eight k)

  -- what its step asks
  pub known-van : (j from end : ℕ) → j < vans_of sheet → Spot (vans_of sheet) t j from end → Known sheet at (row_state routes sets levels figures j) (take (end - from) (drop from t))
  known-van j from end h spot =
      subst (λ (s : State). Known sheet at s (take (end - from) (drop from t))) (state-of (row_state routes sets levels figures) j (omega (arith, h, k.laid.fine.vans-high)))
      (subst (λ (u : List ℕ). Known sheet at (state_in (fleet_with routes sets levels figures) j) u) (sym (part-lent (vans_of sheet) j from end t t spot refl))
      (record { clear = k.clear; laid = k.laid; form = known-form k j h; held = known-held k j h }))

-- what a pass over the wards asks of a van
pub nodes-row : {n nodes : ℕ} (routes sets levels figures : List (List ℕ)) (j : ℕ) → j < most_vans → nodes ≡ n → Sound n (board_in (fleet_with routes sets levels figures) j)
    → Nodes nodes (figures_in (get_or figures j [])).stops (get_or routes j [])
nodes-row {n} routes sets levels figures j h e s =
    subst (λ (m : ℕ). Nodes m (figures_in (get_or figures j [])).stops (get_or routes j [])) (sym e)
    (sound-nodes n (row_board routes sets figures j) (subst (λ (x : State). Sound n (board_of x)) (state-of (row_state routes sets levels figures) j h) s))

-- ---- a bar that is known

pub barred-by : {want : RanAll} {a : ℕ} (bar : ℕ) (f : Fleet) (t : List ℕ) (after : RanAll) → want ≡ unless_barred bar f t after → bar ≡ a → a ≢ 0 → want ≡ acted_all a 0 f t
barred-by {a = a} bar f t after e b n = e ∙ ap (λ (k : ℕ). unless_barred k f t after) b ∙ barred a f t after n

pub unbarred-by : {want r : RanAll} (bar : ℕ) (f : Fleet) (t : List ℕ) (after : RanAll) → want ≡ unless_barred bar f t after → bar ≡ 0 → after ≡ r → want ≡ r
unbarred-by bar f t after e b q = e ∙ unbarred bar f t after b ∙ q

-- ---- stepping back, as the rows have it

pub record Backed (sheet : List ℕ) (f : Fleet) (t : List ℕ) (step : Step) (f' : Fleet) (t' : List ℕ) (fits : Bool) : Type 0 where
  pub same : t ≡ t'
  pub boards : (j : ℕ) → j < vans_of sheet → Sound (n_of sheet) (board_in f' j)
  pub yes : fits ≡ true → shares_none (n_of sheet) (vans_of sheet) f' ≡ true → act_all (van_of sheet) (day_of sheet) (vans_of sheet) f t step ≡ acted_all 0 0 f' t'
  pub no : fits && shares_none (n_of sheet) (vans_of sheet) f' ≡ false → act_all (van_of sheet) (day_of sheet) (vans_of sheet) f t step ≡ acted_all refusal.MISFIT 0 f t
  pub one : vans_of sheet ≡ 1 → fits && shares_none (n_of sheet) (vans_of sheet) f' ≡ false → f' ≡ f

pub backed : {sheet : List ℕ} {at : Layout} {routes sets levels figures : List (List ℕ)} {t : List ℕ} (step : Step) (f' : Fleet) (t' : List ℕ) (fits : Bool)
    → KnownRows sheet at routes sets levels figures t → step.kind ≡ kinds.BACK → 1 ≤ (figures_in (get_or figures 0 [])).depth
    → Turned at.nodes at.vans (fleet_with routes sets levels figures) t step (acted_all 0 0 f' t') fits → Backed sheet (fleet_with routes sets levels figures) t step f' t' fits
backed {sheet} {at} {routes} {sets} {levels} {figures} {t} step f' t' fits k kind deep e =
    let f = fleet_with routes sets levels figures in
    let most = k.laid.fine.vans-high in
    let low : 1 ≤ (state_in f 0).depth = omega (arith, deep, depth-row routes sets levels figures) in
    let q = turned_as f t step (acted_all 0 0 f' t') fits k.laid.nodes k.laid.vans e in
    record {
      same = back-same (van_of sheet) (day_of sheet) (vans_of sheet) f t step kind most k.form low f' t' fits q;
      boards = λ j h. back-board (van_of sheet) (day_of sheet) (vans_of sheet) f t step kind most k.form low f' t' fits q j h (known-sound k j h);
      yes = back-yes (van_of sheet) (day_of sheet) (vans_of sheet) f t step kind most k.form low f' t' fits q;
      one = λ o p. back_one (van_of sheet) (day_of sheet) (vans_of sheet) f t step kind most k.form low f' t' fits q o (fleet-eight (row_state routes sets levels figures)) p;
      no = back-no (van_of sheet) (day_of sheet) (vans_of sheet) f t step kind most k.form low f' t' fits q;
    }

-- ---- a van with nothing to settle

-- settling of a van with no open place leaves fleet and trail
pub van-rests : {sheet : List ℕ} {at : Layout} {routes sets levels figures : List (List ℕ)} {t : List ℕ} → KnownRows sheet at routes sets levels figures t
    → (step : Step) → step.kind ≡ kinds.SETTLE → step.van < vans_of sheet → all_below at.nodes (λ y. eqb (get_or (get_or sets step.van []) y 0) 0) ≡ true
    → van_act (van_of sheet) (day_of sheet) (vans_of sheet) (fleet_with routes sets levels figures) t step ≡ acted_all 0 0 (fleet_with routes sets levels figures) t
van-rests {sheet} {at} {routes} {sets} {levels} {figures} {t} p step k low none =
    van-alone (van_of sheet) (day_of sheet) v f t step low (λ z. omega (arith, k, z))
    ∙ alone-is v f t i _ low p.laid.fine.vans-high (fleet-eight (row_state routes sets levels figures))
    (settle-rests (van_of sheet i) (state_in f i) (trail_in v t i) step.kind step.first step.second k known
    (ap (λ (s : State). all_below at.nodes (λ y. eqb (get_or s.sets y 0) 0)) (state-of (row_state routes sets levels figures) i few) ∙ none))
    (λ n. absurd (n refl)) refl refl
    (record { states = λ j d h. refl; trails = λ j d h. refl; eight = fleet-eight (row_state routes sets levels figures); long = refl; over = refl })
  where
    v : ℕ
    v = vans_of sheet

    f : Fleet
    f = fleet_with routes sets levels figures

    i : ℕ
    i = step.van

    few : i < most_vans
    few = omega (arith, low, p.laid.fine.vans-high)

    known : Known sheet at (state_in f i) (trail_in v t i)
    known = record { clear = p.clear; laid = p.laid; form = known-form p i low; held = known-held p i low }
