-- The fresh fleet put into rows, van by van.
use Prim.Native.Nat.{ℕ, ◌<◌}
use mathlib.Core.Path.{◌≡◌, refl, ap}
use mathlib.Core.Bool.{Bool, cond}
use mathlib.Core.List.{List, []}
use native.Mathlib.Omega.{arith}
use lib.ListN.{length, replicate, length-replicate, get_or-replicate}
use lib.Dec.{ltb}
use borrow.Author.Tests.{le-ltb}
use Rattle.rules.specs.Numbers.{most_vans}
use Rattle.board.specs.Fresh.{no_state, fresh_state}
use Rattle.fleet.specs.Fleet.{fresh_fleet}
use Rattle.fleet.specs.Rows.{row_state, fleet_with, Blank}
use Rattle.fleet.proofs.FleetLaws.{fleet_made}
use Rattle.laws.proofs.Turned.{tab-same}
use Rattle.turns.specs.Turn.{EightRows}

-- the first j rows have a fresh van, the others nothing but zeros
pub record Freshly (n : ℕ) (may : ℕ → ℕ → Bool) (j : ℕ) (routes sets levels figures : List (List ℕ)) : Type 0 where
  pub rows : EightRows routes sets levels figures
  pub at : (k : ℕ) → k < most_vans → row_state routes sets levels figures k ≡ cond (ltb k j) (fresh_state n (may k)) no_state

pub freshly-none : (n : ℕ) (may : ℕ → ℕ → Bool) {routes sets levels figures : List (List ℕ)} → Blank routes → Blank sets → Blank levels → figures ≡ replicate most_vans (replicate 5 0)
    → Freshly n may 0 routes sets levels figures
unfolding no_state
freshly-none n may a b c d =
    let blank : List ℕ = replicate 64 0 in
    let none : List ℕ = replicate 5 0 in
    rw (a, b, c, d)
    (record {
      rows = (
        length-replicate most_vans blank,
        length-replicate most_vans blank,
        length-replicate most_vans blank,
        record { eight = length-replicate most_vans none; wide = λ k h. ap length (get_or-replicate most_vans k none [] h) },
      );
      at = λ k h. rw (le-ltb k 0 (omega arith), get_or-replicate most_vans k blank [] h, get_or-replicate most_vans k none [] h) refl;
    })

-- all of them
pub freshly-all : {n : ℕ} {may : ℕ → ℕ → Bool} {v : ℕ} {routes sets levels figures : List (List ℕ)} → Freshly n may v routes sets levels figures → fleet_with routes sets levels figures ≡ fresh_fleet n v may
unfolding fresh_fleet
freshly-all p = ap fleet_made (tab-same most_vans _ _ p.at)
