-- Why placing is refused, as the loops over the rows ask it.
use mathlib.Core.Path.{◌≡◌, refl, sym, ap, subst, ◌∙◌}
use mathlib.Core.Bool.{Bool, true, false, not, ◌&&◌, ◌||◌}
use mathlib.Core.List.{List, []}
use Prim.Native.Nat.{ℕ, ◌≤◌, ◌<◌}
use native.Mathlib.Omega.{arith}
use borrow.Author.Tests.{eq-eqb}
use lib.ListN.{get_or, take}
use lib.Dec.{eqb, ltb}
use Rattle.laws.specs.Basic.{all_below, any_below, or_else, unless}
use Rattle.laws.proofs.AnyLaws.{any-below-same}
use Rattle.laws.proofs.Below.{below-same}
use Rattle.laws.proofs.Choice.{first_stops}
use Rattle.bits.specs.Places.{has}
use Rattle.rules.specs.Numbers.{refusal, most_vans}
use Rattle.rules.specs.Day.{Day}
use Rattle.rules.specs.Verdict.{owed}
use Rattle.sheet.specs.Section.{n_of, vans_of}
use Rattle.sheet.specs.declared.Layout.{Layout}
use Rattle.day.specs.Tell.{day_of}
use Rattle.board.specs.Board.{board, board_of, route_of, set_of, open_at}
use Rattle.board.specs.declared.State.{State}
use Rattle.board.specs.declared.Figures.{Figures}
use Rattle.records.specs.Trail.{room_of}
use Rattle.trail.specs.Refusals.{place_shut}
use Rattle.records.specs.Undo.{Readable}
use Rattle.records.proofs.UndoLaws.{readable}
use Rattle.along.specs.Ready.{Ready}
use Rattle.stands.proofs.Formed.{stands-formed}
use Rattle.van.specs.Act.{owed_of}
use Rattle.fleet.specs.Fleet.{board_in, trail_in}
use Rattle.fleet.specs.Rows.{figures_in, row_state, row_board, fleet_with, ReadyAll}
use Rattle.fleet.specs.declared.Fleet.{Fleet}
use Rattle.fleet.proofs.FleetLaws.{state-of}
use Rattle.bars.specs.Bars.{claimed, roomy, place_bar}

-- ---- the rows of a van

-- what settling and the verdict ask of van j
pub ready-row : {sheet : List ℕ} {at : Layout} {routes sets figures : List (List ℕ)} (j : ℕ) → ReadyAll sheet at routes sets figures → j < vans_of sheet
    → Ready sheet at (get_or routes j []) (figures_in (get_or figures j [])).stops (get_or sets j []) (figures_in (get_or figures j [])).marks
unfolding route_of open_at set_of
ready-row {sheet} {at} {routes} {sets} {figures} j r h =
    let s = r.each j h in
    record {
      clear = r.clear;
      laid = r.laid;
      long = s.wide.route;
      sized = s.wide.sets;
      most = omega (arith, s.form.route.most, s.small);
      form = stands-formed (day_of sheet) (row_board routes sets figures j) s.small s.wide (r.words j h) s.form;
    }

-- van j is another than i and owes x
abbrev pub row_owes : Day → List (List ℕ) → List (List ℕ) → ℕ → ℕ → ℕ → Bool
row_owes d routes figures i x j =
    not (eqb j i) && owed d (take (figures_in (get_or figures j [])).stops (get_or routes j [])) (has (figures_in (get_or figures j [])).marks) x

-- one van alone: no other owes x
pub claimed-alone : (d : Day) (v : ℕ) (f : Fleet) (i x : ℕ) → v ≡ 1 → i < v → claimed d v f i x ≡ false
unfolding claimed any_below
claimed-alone d v f i x e h = rw (e, eq-eqb 0 i (omega (arith, e, h))) refl

pub claimed-rows : (d : Day) (v : ℕ) (routes sets levels figures : List (List ℕ)) (i x : ℕ) → v ≤ most_vans
    → claimed d v (fleet_with routes sets levels figures) i x ≡ any_below v (row_owes d routes figures i x)
unfolding claimed route_of
claimed-rows d v routes sets levels figures i x m =
    any-below-same v _ _ (λ j h. ap (λ (s : State). not (eqb j i) && owed_of d s x) (state-of (row_state routes sets levels figures) j (omega arith)))

-- van j has room, where its part of the trail has so much
abbrev pub row_roomy : List (List ℕ) → List (List ℕ) → ℕ → ℕ → ℕ → ℕ → Bool
row_roomy sets figures room i x j = (not (eqb j i) && eqb (get_or (get_or sets j []) x 0) 0) || ltb (figures_in (get_or figures j [])).records room

pub roomy-rows : (v : ℕ) (routes sets levels figures : List (List ℕ)) (t : List ℕ) (room i x : ℕ) → v ≤ most_vans
    → ((j : ℕ) → j < v → room_of (trail_in v t j) ≡ room) → all_below v (roomy v (fleet_with routes sets levels figures) t i x) ≡ all_below v (row_roomy sets figures room i x)
unfolding roomy set_of
roomy-rows v routes sets levels figures t room i x m h =
    below-same v _ _ (λ j l. rw (state-of (row_state routes sets levels figures) j (omega arith), h j l) refl)

-- the same for a sheet's number of vans, by the name the code has for it
pub room-vans : {vans v : ℕ} (sets figures : List (List ℕ)) (room i x : ℕ) {b : Bool} → vans ≡ v
    → ((routes levels : List (List ℕ)) (t : List ℕ) → ((j : ℕ) → j < vans → room_of (trail_in vans t j) ≡ room) → b ≡ all_below vans (roomy vans (fleet_with routes sets levels figures) t i x))
    → (routes levels : List (List ℕ)) (t : List ℕ) → ((j : ℕ) → j < v → room_of (trail_in v t j) ≡ room) → b ≡ all_below v (roomy v (fleet_with routes sets levels figures) t i x)
room-vans sets figures room i x {b = b} e =
    subst (λ (w : ℕ). ((routes levels : List (List ℕ)) (t : List ℕ) → ((j : ℕ) → j < w → room_of (trail_in w t j) ≡ room)
    → b ≡ all_below w (roomy w (fleet_with routes sets levels figures) t i x))) e

-- why the place is shut, by the figures that were read
pub shut_row : {sheet : List ℕ} {at : Layout} {routes sets figures : List (List ℕ)} (levels : List (List ℕ)) {f : Figures} (i p x : ℕ) {k : ℕ}
    → ReadyAll sheet at routes sets figures → i < vans_of sheet → f ≡ figures_in (get_or figures i [])
    → k ≡ place_shut at.nodes (board (get_or routes i []) f.stops (get_or sets i []) f.marks f.must) p x
    → k ≡ place_shut (n_of sheet) (board_in (fleet_with routes sets levels figures) i) p x
shut_row {sheet} {at} {routes} {sets} {figures} levels i p x r h e q =
    let row = state-of (row_state routes sets levels figures) i (omega (arith, r.laid.fine.vans-high)) in
    rw e at q
    ∙ ap (λ (m : ℕ). place_shut m (row_board routes sets figures i) p x) r.laid.nodes
    ∙ sym (ap (λ (s : State). place_shut (n_of sheet) (board_of s) p x) row)

-- what reading van j's route asks
pub readable_row : {sheet : List ℕ} {at : Layout} {routes sets figures : List (List ℕ)} (j : ℕ) → ReadyAll sheet at routes sets figures → j < vans_of sheet
    → Readable at.nodes (figures_in (get_or figures j [])).stops (get_or routes j [])
readable_row {sheet} {at} {routes} {sets} {figures} j r h =
    subst (λ (n : ℕ). Readable n (figures_in (get_or figures j [])).stops (get_or routes j [])) (sym r.laid.nodes) (readable (n_of sheet) (row_board routes sets figures j) (r.each j h))

-- ---- the first refusal

module _ (d : Day) (v : ℕ) (f : Fleet) (t : List ℕ) (i p x : ℕ) where
  pub bar-shut : {k : ℕ} → k ≡ place_shut d.n (board_in f i) p x → (k ≡ 0 → ⊥) → k ≡ place_bar d v f t i p x
  unfolding place_bar
  bar-shut e n = first_stops _ e n

  module _ (z : place_shut d.n (board_in f i) p x ≡ 0) where
    pub bar-claimed : claimed d v f i x ≡ true → refusal.CLAIMED ≡ place_bar d v f t i p x
    unfolding place_bar or_else
    bar-claimed e = rw (z, e) refl

    pub bar-room : {b : Bool} → claimed d v f i x ≡ false → b ≡ all_below v (roomy v f t i x) → unless b refusal.ROOM ≡ place_bar d v f t i p x
    unfolding place_bar or_else
    bar-room e q = rw (z, e, sym q) refl
