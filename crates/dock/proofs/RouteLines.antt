-- The route lines of the vans, one after another.
use Prim.Native.Nat.{ℕ, ◌+◌, ◌≤◌}
use mathlib.Core.Path.{◌≡◌, refl, sym, ap}
use mathlib.Core.List.{List, []}
use native.Mathlib.Omega.{arith}
use native.Mathlib.Numerals.{add-one}
use lib.ListN.{get_or, take}
use Rattle.laws.specs.Basic.{joined}
use Rattle.laws.proofs.Parts.{joined_same}
use Rattle.rules.specs.Numbers.{most_vans}
use Rattle.board.specs.Board.{board_of, route_of}
use Rattle.board.specs.declared.State.{State}
use Rattle.listing.specs.Put.{Put}
use Rattle.listing.specs.Text.{route_line}
use Rattle.listing.proofs.PutLaws.{put_then}
use Rattle.fleet.specs.Rows.{figures_in, row_state, fleet_with}
use Rattle.fleet.proofs.FleetLaws.{state-of}
use Rattle.dock.specs.Listing.{routes_of}

-- the route line of row j
abbrev pub row_line : List (List ℕ) → List (List ℕ) → ℕ → List ℕ
row_line routes figures j = route_line (take (figures_in (get_or figures j [])).stops (get_or routes j []))

-- before the first
pub rows_none : (b : List ℕ) (at : ℕ) (line : ℕ → List ℕ) → Put b at (joined 0 line) at b
unfolding joined
rows_none b at line = record { bytes = refl; next-is = omega arith }

-- one more
pub rows_next : {b m c : List ℕ} {at i next : ℕ} (line : ℕ → List ℕ) (j : ℕ) → Put b at (joined j line) i m → Put m i (line j) next c → Put b at (joined (j + 1) line) next c
unfolding joined
rows_next line j p q = rw (add-one j) (put_then p q)

-- all of them are the fleet's
pub rows-routes : (routes sets levels figures : List (List ℕ)) (v : ℕ) → v ≤ most_vans → joined v (row_line routes figures) ≡ routes_of v (fleet_with routes sets levels figures)
unfolding routes_of route_of
rows-routes routes sets levels figures v h =
    joined_same v _ _ (λ j l. ap (λ (s : State). route_line (route_of (board_of s))) (sym (state-of (row_state routes sets levels figures) j (omega (arith, l, h)))))
