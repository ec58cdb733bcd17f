-- A fleet in form, whose sheet no call refuses: what its vans' turns and the refusals ask.
use mathlib.Core.Path.{◌≡◌, refl, sym, ap, subst, ◌∙◌}
use mathlib.Core.Bool.{true, false, cond, not}
use mathlib.Core.List.{List}
use mathlib.Core.Logic.{◌≢◌}
use Prim.Native.Nat.{ℕ, ◌≤◌, ◌<◌}
use native.Mathlib.Omega.{arith}
use lib.Dec.{eqb, leb, ltb}
use borrow.Author.Tests.{lt-ltb, ltb-true, eqb-true, eqb-false, not-true}
use Rattle.laws.specs.Basic.{all_below, or_else, unless}
use Rattle.laws.proofs.Logic.{and-true, decided}
use Rattle.laws.proofs.Below.{below_at}
use Rattle.laws.proofs.Choice.{or-else-zero, passed}
use Rattle.bits.specs.Places.{has}
use Rattle.bits.proofs.Members.{has-none, false-true}
use Rattle.rules.specs.Numbers.{refusal, kinds, most_vans}
use Rattle.rules.specs.Day.{Day}
use Rattle.rules.specs.declared.Step.{Step}
use Rattle.sheet.specs.Section.{n_of, vans_of}
use Rattle.sheet.specs.declared.Layout.{Layout}
use Rattle.board.specs.Board.{board_of, on_route, open_at}
use Rattle.board.specs.Form.{in_form, form_with}
use Rattle.board.specs.Held.{Held, Words}
use Rattle.board.proofs.FormLaws.{in-form, form-with}
use Rattle.board.specs.declared.State.{State}
use Rattle.records.specs.Trail.{room_of}
use Rattle.trail.specs.Refusals.{place_shut, exclude_refusal}
use Rattle.trail.proofs.StepLaws.{not-shut, place-open}
use Rattle.fleet.specs.Fleet.{state_in, board_in, trail_in}
use Rattle.fleet.specs.Form.{shares_none, van_ok, idle, in_form_all, form_with_all}
use Rattle.fleet.specs.Rows.{row_state, fleet_with, ReadyAll}
use Rattle.fleet.specs.declared.Fleet.{Fleet}
use Rattle.fleet.proofs.FleetLaws.{state-of}
use Rattle.fleet.proofs.FormLaws.{ward-none, shares-apart, fits-form, fits-depth}
use Rattle.bars.specs.Bars.{claimed, roomy, place_bar}
use Rattle.acts.specs.Known.{KnownRows}
use Rattle.turns.specs.Turn.{Turning, turn_bar, EightRows}

-- ---- a fleet in form, where a trail is lent

module _ (n v : ℕ) (f : Fleet) (t : List ℕ) (e : form_with_all n v f t ≡ true) where
  pub form-shares : shares_none n v f ≡ true
  unfolding form_with_all in_form_all
  form-shares = (and-true (all_below most_vans (λ j. cond (ltb j v) (van_ok n f j) (idle (state_in f j)))) (shares_none n v f) (and-true (in_form_all n v f) _ e).0).1

  module _ (most : v ≤ most_vans) (j : ℕ) (low : j < v) where
    pub form-van : van_ok n f j ≡ true
    unfolding form_with_all in_form_all
    form-van =
        let a = (and-true (all_below most_vans (λ j. cond (ltb j v) (van_ok n f j) (idle (state_in f j)))) (shares_none n v f) (and-true (in_form_all n v f) _ e).0).0 in
        rw (lt-ltb j v low) at (below_at most_vans j (λ j. cond (ltb j v) (van_ok n f j) (idle (state_in f j))) a (omega arith))

    -- the van is, with its part
    pub form-state : form_with n (state_in f j) (room_of (trail_in v t j)) ≡ true
    unfolding form_with_all form_with
    form-state =
        rw (fits-form n (state_in f j) (state_in f 0).depth (eqb j 0) form-van)
        (below_at v j (λ j. leb (state_in f j).records (room_of (trail_in v t j))) (and-true (in_form_all n v f) _ e).1 low)

    -- every van has as many levels
    pub form-depth : (state_in f j).depth ≡ (state_in f 0).depth
    form-depth = fits-depth n (state_in f j) (state_in f 0).depth (eqb j 0) form-van

-- ---- a placing that nothing refuses

pub record Unbarred (d : Day) (v : ℕ) (f : Fleet) (t : List ℕ) (i p x : ℕ) : Type 0 where
  pub shut : place_shut d.n (board_in f i) p x ≡ 0
  pub free : claimed d v f i x ≡ false
  pub room : all_below v (roomy v f t i x) ≡ true

pub bar-free : (d : Day) (v : ℕ) (f : Fleet) (t : List ℕ) (i p x : ℕ) → place_bar d v f t i p x ≡ 0 → Unbarred d v f t i p x
unfolding place_bar
bar-free d v f t i p x e =
    let a = or-else-zero (place_shut d.n (board_in f i) p x) _ e in
    let b = or-else-zero (unless (not (claimed d v f i x)) refusal.CLAIMED) _ a.1 in
    record {
      shut = a.0;
      free = not-true (claimed d v f i x) (passed (not (claimed d v f i x)) refusal.CLAIMED refl b.0);
      room = passed (all_below v (roomy v f t i x)) refusal.ROOM refl b.1;
    }

module _ (n v : ℕ) (f : Fleet) (t : List ℕ) (small : n ≤ 64) (e : form_with_all n v f t ≡ true) (step : Step) (l : step.van < v)
    (d : Day) (same : d.n ≡ n) (u : Unbarred d v f t step.van step.first step.second) where
  shut : place_shut n (board_in f step.van) step.first step.second ≡ 0
  shut = ap (λ (m : ℕ). place_shut m (board_in f step.van) step.first step.second) (sym same) ∙ u.shut

  -- the ward is open in the named van, so on no other route
  off : (j : ℕ) → j < v → j ≢ step.van → on_route (board_in f j) step.second ≡ false
  unfolding open_at
  off j h ne =
      let s = not-shut n (board_in f step.van) step.first step.second shut in
      decided (on_route (board_in f j) step.second)
      (λ on. let z = (ward-none (board_in f step.van) step.second (shares-apart n v f small (form-shares n v f t e) j step.van step.second h l ne s.0.node on)).1 in
      absurd (false-true (sym (has-none step.first) ∙ ap (λ (w : ℕ). has w step.first) (sym z) ∙ s.1)))
      (λ q. q)

  -- no van's part in it is refused
  pub free-turns : (j : ℕ) → j < v → turn_bar n step j (state_in f j) (trail_in v t j) ≡ 0
  unfolding roomy exclude_refusal or_else
  free-turns j h =
      let r = below_at v j (roomy v f t step.van step.second) u.room h in
      let s = not-shut n (board_in f step.van) step.first step.second shut in
      decided (eqb j step.van)
      (λ q. rw q (place-open n (board_in f j) (state_in f j).records (room_of (trail_in v t j)) step.first step.second
      (ap (λ (k : ℕ). place_shut n (board_in f k) step.first step.second) (eqb-true j step.van q) ∙ shut)
      (ltb-true (state_in f j).records (room_of (trail_in v t j)) (rw q at r))))
      (λ q. rw (q, s.0.node, off j h (eqb-false j step.van q), rw q at r) refl)

-- ---- what is known of the rows

module _ {sheet : List ℕ} {at : Layout} {routes sets levels figures : List (List ℕ)} {t : List ℕ} (k : KnownRows sheet at routes sets levels figures t) where
  abbrev f : Fleet
  f = fleet_with routes sets levels figures

  pub known-held : (j : ℕ) → j < vans_of sheet → Held (state_in f j)
  known-held j h = k.held.each j (omega (arith, h, k.laid.fine.vans-high))

  pub known-form : (j : ℕ) → j < vans_of sheet → form_with (n_of sheet) (state_in f j) (room_of (trail_in (vans_of sheet) t j)) ≡ true
  known-form = form-state (n_of sheet) (vans_of sheet) f t k.form k.laid.fine.vans-high

  pub known-turning : (step : Step) → ((j : ℕ) → j < vans_of sheet → step.kind ≡ kinds.PLACE → turn_bar (n_of sheet) step j (state_in f j) (trail_in (vans_of sheet) t j) ≡ 0)
      → (j : ℕ) → j < at.vans → Turning at.nodes step j (state_in f j) (trail_in at.vans t j)
  known-turning step free =
      subst (λ (n : ℕ). (j : ℕ) → j < at.vans → Turning n step j (state_in f j) (trail_in at.vans t j)) (sym k.laid.nodes)
      (subst (λ (v : ℕ). (j : ℕ) → j < v → Turning (n_of sheet) step j (state_in f j) (trail_in v t j)) (sym k.laid.vans)
      (λ j h. record { small = k.laid.fine.n-high; held = known-held j h; form = known-form j h; free = free j h }))

  pub known-ready : ReadyAll sheet at routes sets figures
  known-ready = record {
    clear = k.clear;
    laid = k.laid;
    figured = k.figured;
    each = λ j h.
        let s = row_state routes sets levels figures j in
        let is = state-of (row_state routes sets levels figures) j (omega (arith, h, k.laid.fine.vans-high)) in
        let held : Held s = subst Held is (known-held j h) in
        let form : in_form (n_of sheet) s ≡ true = ap (in_form (n_of sheet)) (sym is) ∙ (form-with (n_of sheet) (state_in f j) _ (known-form j h)).0 in
        record { small = k.laid.fine.n-high; wide = held.wide; form = (in-form (n_of sheet) s k.laid.fine.n-high held.wide form).board };
    words = λ j h. subst (λ (s : State). Words (board_of s)) (state-of (row_state routes sets levels figures) j (omega (arith, h, k.laid.fine.vans-high))) (known-held j h).words;
  }

  pub known-eight : EightRows routes sets levels figures
  known-eight = (k.rows.0.eight, k.rows.1.eight, k.rows.2.eight, k.figured)
