-- What a pass over the vans finds of the wards.
use Rattle.std.specs.Prelude.{◌≡◌, Bool, true, false, not, ◌&&◌, ◌||◌, List, ℕ, ◌≤◌, ◌<◌, length, get_or, eqb}
use Rattle.laws.specs.Basic.{all_below, any_below}
use Rattle.rules.specs.Day.{is_inner}
use Rattle.bits.specs.Places.{has}
use Rattle.board.specs.Board.{Board, board_of, on_route, set_of}
use Rattle.board.specs.declared.State.{State}
use Rattle.fleet.specs.Fleet.{board_in}
use Rattle.fleet.specs.Form.{has_ward, shares_none, van_fits}
use Rattle.fleet.specs.declared.Fleet.{Fleet}
use Rattle.fleet.specs.declared.wards.Wards.{Wards}

-- what a pass over the vans asks of a route: an array of 64 entries, few stops, each a node
abbrev pub Nodes : ℕ → ℕ → List ℕ → Type 0
Nodes n stops route = (n ≤ 64) × (stops ≤ 64) × (length route ≡ 64) × ((i : ℕ) → i < stops → get_or route i 0 < n)

-- the words are those of the vans' wards, and the flag is the rule between vans
pub record HasWards (n v : ℕ) (f : Fleet) (w : Wards) : Type 0 where
  pub placed : (y : ℕ) → has w.placed y ≡ is_inner n y && any_below v (λ j. on_route (board_in f j) y)
  pub reached : (y : ℕ) → has w.reached y ≡ is_inner n y && any_below v (λ j. has_ward (board_in f j) y)
  pub apart : w.apart ≡ shares_none n v f

-- the same with one van more, whose board is b
pub record AddsVan (n : ℕ) (w : Wards) (b : Board) (r : Wards) : Type 0 where
  pub placed : (y : ℕ) → has r.placed y ≡ has w.placed y || is_inner n y && on_route b y
  pub reached : (y : ℕ) → has r.reached y ≡ has w.reached y || is_inner n y && has_ward b y
  pub apart : r.apart ≡ w.apart && (all_below 64 (λ y. not (is_inner n y && (on_route b y && has w.reached y))) && all_below 64 (λ y. not (is_inner n y && (not (eqb (set_of b y) 0) && has w.placed y))))

-- one van more, whose state is s, which may be the only one: not in form, the flag is down; the only one has no other; any other is added
pub record JoinsVan (n : ℕ) (w : Wards) (s : State) (depth : ℕ) (first alone : Bool) (r : Wards) : Type 0 where
  pub misfit : van_fits n s depth first ≡ false → r ≡ record { placed = 0; reached = 0; apart = false }
  pub only : van_fits n s depth first ≡ true → alone ≡ true → r ≡ w
  pub added : van_fits n s depth first ≡ true → alone ≡ false → AddsVan n w (board_of s) r
