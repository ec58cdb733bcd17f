-- What owning a Fleet tells of its value, and what owning Wards does.
use mathlib.Core.Path.{◌≡◌}
use mathlib.Core.List.{List, [], ◌∷◌}
use Prim.Native.Nat.{ℕ, zero, suc, ◌<◌, ◌^◌}
use native.Mathlib.Omega.{arith}
use lib.ListN.{length, get_or}
use denote.Shadow.{shadow}
use denote.Array.{each}
use mir.Val.{Val}
use denote.Laws.{Is}
use denote.Struct.Declared.{row}
use Rattle.board.specs.Fresh.{no_state}
use Rattle.board.specs.Held.{Held}
use Rattle.board.specs.declared.State.{State}
use Rattle.board.proofs.Told.{is_held}
use Rattle.board.specs.contracts.State as state
use Rattle.fleet.specs.Fleet.{state_in, HeldAll}
use Rattle.fleet.specs.declared.Fleet.{Fleet}
use Rattle.fleet.specs.declared.wards.Wards.{Wards}
use Rattle.fleet.specs.contracts.Fleet.{the_type}
use Rattle.fleet.specs.contracts.wards.Wards as wards

-- each state of an array is held
each-held : (xs : List State) (us : List Val) → shadow (each (state.the_row).Denot (state.the_row).own_val xs us)
    → (j : ℕ) → j < length xs → Held (get_or xs j no_state)
each-held [] us p j h = absurd (omega arith)
each-held (x ∷ xs) [] p j h = absurd p
each-held (x ∷ xs) (u ∷ us) p zero h = is_held x (u ∷ []) p.0
each-held (x ∷ xs) (u ∷ us) p (suc j) h = each-held xs us p.1 j (omega arith)

pub is-held-all : (f : Fleet) (vs : List Val) → Is (row the_type) f vs → HeldAll f
unfolding state_in
is-held-all f vs g =
    let a = g.1.1.0 in
    let long : length f.vans ≡ 8 = a.1.0.1 in
    record { eight = long; each = λ j h. each-held f.vans a.0 a.1.1 j (omega (arith, long, h)) }

-- sets of wards are words
pub is-words : (w : Wards) (vs : List Val) → Is (row wards.the_type) w vs → (w.placed < 2 ^ 64) × (w.reached < 2 ^ 64)
is-words w vs g = (g.1.1.0.1, g.1.1.1.0.1)
