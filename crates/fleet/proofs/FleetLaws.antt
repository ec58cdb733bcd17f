-- A fleet by its states, the parts of a lent trail, and a state that is idle.
use mathlib.Core.Path.{◌≡◌, refl, sym, ap, ◌∙◌}
use mathlib.Core.Bool.{Bool, true, ◌&&◌}
use mathlib.Core.List.{List}
use Prim.Native.Nat.{ℕ, ◌+◌, ◌*◌, ◌/◌, ◌≤◌, ◌<◌}
use native.Mathlib.Nat.{mul_comm, div-mul-le_self}
use native.Mathlib.Omega.{arith}
use lib.ListN.{length, get_or, replicate, length-replicate, get_or-replicate}
use lib.Seq.{ext_get_or}
use lib.Dec.{eqb}
use borrow.Author.Tests.{eqb-true}
use Rattle.laws.specs.Basic.{all_below, tab}
use Rattle.laws.proofs.Logic.{and-true}
use Rattle.laws.proofs.Below.{below_at, below-make}
use Rattle.laws.proofs.Table.{length-tab, get_or-tab}
use Rattle.laws.proofs.Parts.{part-before, part_length}
use Rattle.rules.specs.Numbers.{most_vans}
use Rattle.board.specs.Board.{state_of}
use Rattle.board.specs.Fresh.{no_state, fresh_state}
use Rattle.board.specs.Held.{Held}
use Rattle.board.specs.declared.State.{State}
use Rattle.records.specs.Trail.{room_of}
use Rattle.fleet.specs.Fleet.{fleet_of, state_in, one_van, fresh_fleet, share_of, trail_in}
use Rattle.fleet.specs.Form.{idle}
use Rattle.fleet.specs.declared.Fleet.{Fleet}
use Rattle.laws.proofs.Turned.{get_d_any}

-- ---- a fleet by its states

pub state-of : (f : ℕ → State) (j : ℕ) → j < most_vans → state_in (fleet_of f) j ≡ f j
unfolding state_in
state-of f j l = get_or-tab most_vans f no_state j l

pub fleet-eight : (f : ℕ → State) → length (fleet_of f).vans ≡ most_vans
fleet-eight f = length-tab most_vans f

-- a fleet by its list
abbrev pub fleet_made : List State → Fleet
fleet_made l = record { vans = l }

-- the same states, the same fleet
pub fleet-same : (f g : Fleet) → length f.vans ≡ most_vans → length g.vans ≡ most_vans → ((j : ℕ) → j < most_vans → state_in f j ≡ state_in g j) → f ≡ g
unfolding state_in
fleet-same f g lf lg e = ap fleet_made (ext_get_or no_state f.vans g.vans (lf ∙ sym lg) (λ j l. e j (rw lf at l)))

-- one fresh van
pub fresh-one : (n : ℕ) (may : ℕ → ℕ → Bool) → one_van (fresh_state n (may 0)) ≡ fresh_fleet n 1 may
unfolding fresh_fleet tab
fresh-one n may = refl

-- a state of eight, whatever stands for one that is not there
pub state-any : (f : Fleet) (j : ℕ) (d : State) → length f.vans ≡ most_vans → j < most_vans → get_or f.vans j d ≡ state_in f j
unfolding state_in
state-any f j d e h = get_d_any f.vans j d no_state (omega (arith, e))

-- ---- the parts of a lent trail

pub share-fits : (v : ℕ) (t : List ℕ) → 1 ≤ v → v * share_of v t ≤ length t
unfolding share_of
share-fits v t h = omega (arith, mul_comm v (length t / v), div-mul-le_self (length t) v)

pub part-fits : (v : ℕ) (t : List ℕ) (j : ℕ) → j < v → j * share_of v t + share_of v t ≤ length t
part-fits v t j h = omega (arith, part-before (share_of v t) j v h, share-fits v t (omega arith))

pub part-long : (v : ℕ) (t : List ℕ) (j : ℕ) → j < v → length (trail_in v t j) ≡ share_of v t
unfolding trail_in
part-long v t j h = part_length (share_of v t) t j (part-fits v t j h)

pub room-part : (v : ℕ) (t : List ℕ) (j : ℕ) → j < v → room_of (trail_in v t j) ≡ share_of v t / 2
unfolding room_of
room-part v t j h = ap (λ (k : ℕ). k / 2) (part-long v t j h)

-- ---- what is no van

-- sixty-four entries, each 0
zeros : (l : List ℕ) → length l ≡ 64 → ((i : ℕ) → i < 64 → get_or l i 0 ≡ 0) → l ≡ replicate 64 0
zeros l e h = ext_get_or 0 l (replicate 64 0) (e ∙ sym (length-replicate {A = ℕ} 64 0)) (λ i b. let b' : i < 64 = rw e at b in h i b' ∙ sym (get_or-replicate 64 i 0 0 b'))

-- a state with every number 0 is the one beside a refusal
pub idle-none : (s : State) → Held s → idle s ≡ true → s ≡ no_state
unfolding idle no_state
idle-none s h e =
    let a = and-true (all_below 64 (λ i. eqb (get_or s.route i 0) 0 && (eqb (get_or s.sets i 0) 0 && eqb (get_or s.levels i 0) 0))) _ e in
    let b = and-true (eqb s.stops 0) _ a.1 in
    let m = and-true (eqb s.marks 0) _ b.1 in
    let u = and-true (eqb s.must 0) _ m.1 in
    let d = and-true (eqb s.depth 0) (eqb s.records 0) u.1 in
    let at : (i : ℕ) → i < 64 → (eqb (get_or s.route i 0) 0 ≡ true) × (eqb (get_or s.sets i 0) 0 && eqb (get_or s.levels i 0) 0 ≡ true) =
    λ i l. and-true (eqb (get_or s.route i 0) 0) _ (below_at 64 i (λ i. eqb (get_or s.route i 0) 0 && (eqb (get_or s.sets i 0) 0 && eqb (get_or s.levels i 0) 0)) a.0 l) in
    let route = zeros s.route h.wide.route (λ i l. eqb-true (get_or s.route i 0) 0 (at i l).0) in
    let sets = zeros s.sets h.wide.sets (λ i l. eqb-true (get_or s.sets i 0) 0 (and-true (eqb (get_or s.sets i 0) 0) _ (at i l).1).0) in
    let levels = zeros s.levels h.levels (λ i l. eqb-true (get_or s.levels i 0) 0 (and-true (eqb (get_or s.sets i 0) 0) _ (at i l).1).1) in
    λ k. state_of (route k) (eqb-true s.stops 0 b.0 k) (sets k) (eqb-true s.marks 0 m.0 k) (eqb-true s.must 0 u.0 k) (levels k) (eqb-true s.depth 0 d.0 k) (eqb-true s.records 0 d.1 k)

pub none-idle : idle no_state ≡ true
unfolding idle no_state
none-idle = rw (below-make 64 (λ i. eqb (get_or (replicate 64 0) i 0) 0 && (eqb (get_or (replicate 64 0) i 0) 0 && eqb (get_or (replicate 64 0) i 0) 0)) (λ i l. rw (get_or-replicate {A = ℕ} 64 i 0 0 l) refl)) refl
