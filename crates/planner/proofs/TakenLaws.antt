-- A step as the code comes to it: refused before it is taken, refused while it is, and taken.
use Prim.Native.Nat.{ℕ, zero, suc, ◌/◌, ◌≤◌, ◌<◌}
use mathlib.Core.Path.{◌≡◌, refl, sym, ap, ap₂, ◌∙◌}
use mathlib.Core.Bool.{Bool, true, false, cond, ◌&&◌}
use mathlib.Core.List.{List}
use native.Mathlib.Omega.{arith}
use lib.ListN.{length}
use lib.Dec.{ltb, leb}
use borrow.Author.Tests.{ltb-true, ltb-false}
use Rattle.laws.specs.Basic.{all_below, or_else, unless}
use Rattle.laws.proofs.Choice.{first_stops}
use Rattle.laws.proofs.Logic.{decided}
use Rattle.laws.proofs.Below.{below-same}
use Rattle.rules.specs.Day.{Day}
use Rattle.rules.specs.Numbers.{refusal, most_vans}
use Rattle.rules.specs.declared.Van.{Van}
use Rattle.rules.specs.declared.Step.{Step}
use Rattle.sheet.specs.Section.{n_of, vans_of}
use Rattle.sheet.specs.Place.{Laid}
use Rattle.sheet.specs.declared.Layout.{Layout}
use Rattle.day.specs.Refuse.{call_refusal}
use Rattle.board.specs.Fresh.{no_state}
use Rattle.records.specs.Trail.{room_of}
use Rattle.fleet.specs.Fleet.{state_in, one_van, share_of, trail_in, HeldAll}
use Rattle.fleet.specs.Form.{in_form_all, form_with_all}
use Rattle.fleet.specs.declared.Fleet.{Fleet}
use Rattle.fleet.proofs.FleetLaws.{state-of, fleet-eight, fleet-same, idle-none, room-part}
use Rattle.turns.specs.Together.{RanAll, acted_all}
use Rattle.std.specs.Prelude.{Result}
use Rattle.rules.specs.Refused.{number_in}
use Rattle.rules.specs.declared.Refusal.{Refusal}
use Rattle.acts.specs.Act.{act_all}
use Rattle.acts.specs.Known.{Did}
use Rattle.acts.specs.Moved.{RestStays}
use Rattle.acts.proofs.Moves.{act-all-leaves}
use Rattle.planner.specs.Face.{ask_refusal, step_refusal, step_of}
use Rattle.planner.specs.Promises.{Took}
use Rattle.planner.proofs.Answers.{unchanged, call-no, acting, moved}
use Rattle.planner.proofs.Courses.{facts}

-- the room is asked last
pub step-last : (sheet : List ℕ) (f : Fleet) (t : List ℕ)
    → step_refusal sheet f t ≡ or_else (ask_refusal sheet f) (unless (all_below (vans_of sheet) (λ j. leb (state_in f j).records (room_of (trail_in (vans_of sheet) t j)))) refusal.FORM)
unfolding step_refusal ask_refusal form_with_all or_else
step-last sheet f t = go (call_refusal sheet) (in_form_all (n_of sheet) (vans_of sheet) f) (all_below (vans_of sheet) (λ j. leb (state_in f j).records (room_of (trail_in (vans_of sheet) t j))))
  where
    go : (a : ℕ) (b c : Bool) → or_else a (unless (b && c) refusal.FORM) ≡ or_else (or_else a (unless b refusal.FORM)) (unless c refusal.FORM)
    go zero true c = refl
    go zero false c = refl
    go (suc a) b c = refl

module _ (sheet : List ℕ) (f : Fleet) (t : List ℕ) (word a b : ℕ) where
  -- refused as every call on the sheet is
  pub refused-sheet : {k : ℕ} → k ≡ call_refusal sheet → (k ≡ 0 → ⊥) → step_of sheet f t word a b ≡ acted_all k 0 f t
  unfolding step_refusal
  refused-sheet {k} e n =
      let same : k ≡ step_refusal sheet f t = first_stops _ e n in
      call-no sheet f t word a b (λ z. n (same ∙ z)) ∙ ap (λ (j : ℕ). acted_all j 0 f t) (sym same)

  -- refused in rows, whatever was left there: the fleet stays
  pub refused-in-rows : {k : ℕ} {g : Fleet} {u : List ℕ} → step_of sheet f t word a b ≡ acted_all k 0 g u → (k ≡ 0 → ⊥) → step_of sheet f t word a b ≡ acted_all k 0 f u
  refused-in-rows {k} {g} {u} e n =
      let stays = unchanged sheet f t word a b (λ z. n (sym (ap (λ (r : RanAll). r.0.answer) e) ∙ z)) in
      stays ∙ ap₂ (λ (j : ℕ) (w : List ℕ). acted_all j 0 f w) (ap (λ (r : RanAll). r.0.answer) e) (sym (ap (λ (r : RanAll). r.1) stays) ∙ ap (λ (r : RanAll). r.1) e)

  -- refused before the room is asked
  pub refused-asked : {k : ℕ} → k ≡ ask_refusal sheet f → (k ≡ 0 → ⊥) → step_of sheet f t word a b ≡ acted_all k 0 f t
  unfolding or_else
  refused-asked {k} e n = call-no sheet f t word a b (λ z. n (same ∙ z)) ∙ ap (λ (j : ℕ). acted_all j 0 f t) (sym same)
    where
      go : (x y : ℕ) → (x ≡ 0 → ⊥) → or_else x y ≡ x
      go zero y h = absurd (h refl)
      go (suc x) y h = refl

      same : k ≡ step_refusal sheet f t
      same = e ∙ sym (go (ask_refusal sheet f) _ (λ z. n (e ∙ z))) ∙ sym (step-last sheet f t)

  -- refused for its room
  pub refused-room : {c : Bool} → ask_refusal sheet f ≡ 0 → c ≡ all_below (vans_of sheet) (λ j. leb (state_in f j).records (room_of (trail_in (vans_of sheet) t j))) → c ≡ false
      → step_of sheet f t word a b ≡ acted_all refusal.FORM 0 f t
  unfolding or_else
  refused-room z e q =
      let same : step_refusal sheet f t ≡ refusal.FORM = step-last sheet f t ∙ rw (z, sym e ∙ q) refl in
      call-no sheet f t word a b (λ y. absurd (omega (arith, sym same ∙ y))) ∙ ap (λ (j : ℕ). acted_all j 0 f t) same

-- each part of the trail has the room of a share
pub rooms : (v : ℕ) (f : Fleet) (t : List ℕ) {room : ℕ} → room ≡ share_of v t / 2
    → all_below v (λ j. leb (state_in f j).records room) ≡ all_below v (λ j. leb (state_in f j).records (room_of (trail_in v t j)))
rooms v f t e = below-same v _ _ (λ j l. ap (λ (r : ℕ). leb (state_in f j).records r) (e ∙ sym (room-part v t j l)))

-- ---- a step that was done in rows

-- refused by 20: the fleet as it was
pub back-leaves : (vans : ℕ → Van) (d : Day) (v : ℕ) (f : Fleet) (t : List ℕ) (step : Step) {k w : ℕ} {o : Result ℕ Refusal} {routes sets levels figures : List (List ℕ)} {u : List ℕ}
    → Did k w (act_all vans d v f t step) o routes sets levels figures u → number_in o ≡ refusal.MISFIT → act_all vans d v f t step ≡ acted_all refusal.MISFIT 0 f u
back-leaves vans d v f t step {o = o} did q =
    let e = act-all-leaves vans d v f t step (λ y. absurd (omega (arith, sym q ∙ did.answer ∙ y))) in
    e ∙ ap₂ (λ (k : ℕ) (u : List ℕ). acted_all k 0 f u) (sym did.answer ∙ q) (sym (did.trail q ∙ ap (λ (r : RanAll). r.1) e))

-- one van: what is behind it stays idle, so the step leaves that van alone
pub one_left : (sheet : List ℕ) (f : Fleet) (t : List ℕ) (word a b : ℕ) {k : ℕ} {f' : Fleet} {t' : List ℕ} → HeldAll f → Took sheet f t word a b k f' t' → vans_of sheet ≡ 1
    → f' ≡ one_van (state_in f' 0)
one_left sheet f t word a b {f' = f'} {t' = t'} held e one =
    fleet-same f' (one_van (state_in f' 0)) rest.eight (fleet-eight _) (λ j h. at j h ∙ sym (state-of (λ j. cond (ltb j 1) (state_in f' 0) no_state) j h))
  where
    rest : RestStays (vans_of sheet) f t f' t'
    rest = (moved sheet f t word a b held e).1

    idle-at : (j : ℕ) → 1 ≤ j → j < most_vans → state_in f j ≡ no_state
    idle-at j low h = let u = acting sheet f t word a b e in idle-none (state_in f j) (held.each j h) ((facts sheet f t u.0 u.1).rest j (omega (arith, one, low)) h)

    at : (j : ℕ) → j < most_vans → state_in f' j ≡ cond (ltb j 1) (state_in f' 0) no_state
    at j h = decided (ltb j 1)
        (λ q. rw q (ap (λ (i : ℕ). state_in f' i) (omega (arith, ltb-true j 1 q))))
        (λ q. rw q (rest.beyond j (omega (arith, one, ltb-false j 1 q)) h ∙ idle-at j (ltb-false j 1 q) h))

-- ---- the room, as it is found

module _ {sheet : List ℕ} {at : Layout} (l : Laid sheet at) (f : Fleet) (t : List ℕ) {b : Bool}
    (found : b ≡ all_below at.vans (λ j. leb (state_in f j).records (length t / at.vans / 2))) where
  pub room-found : b ≡ all_below (vans_of sheet) (λ j. leb (state_in f j).records (room_of (trail_in (vans_of sheet) t j)))
  unfolding share_of
  room-found = found ∙ ap (λ (v : ℕ). all_below v (λ j. leb (state_in f j).records (length t / v / 2))) l.vans ∙ rooms (vans_of sheet) f t refl

  pub form_both : in_form_all (n_of sheet) (vans_of sheet) f ≡ true → b ≡ true → form_with_all (n_of sheet) (vans_of sheet) f t ≡ true
  unfolding form_with_all
  form_both e q = rw e (sym room-found ∙ q)
