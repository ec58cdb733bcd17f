-- The legs of a route in an array that are shut to a clean node, and to a soiled one. A leg is named by the stop that it leaves.
use Rattle.std.specs.Prelude.{◌≡◌, ℕ, ◌<◌, ◌≤◌, Bool, ◌&&◌, ◌||◌, List, ◌↔◌, T, get_or}
use Rattle.bits.specs.Places.{has}
use Rattle.profile.specs.declared.Shut.{Shut}

-- of the first n legs of the route l, one that leaves q, and a stop of the set w "at or before it"
pub record Late (l : List ℕ) (w n q : ℕ) : Type 0 where
  pub leg : ℕ
  pub stop : ℕ
  pub named : get_or l leg 0 ≡ q
  pub low : leg < n
  pub order : stop ≤ leg
  pub is : T (has w (get_or l stop 0))

-- the same with a stop of w that "lies after it"
pub record Early (l : List ℕ) (w n q : ℕ) : Type 0 where
  pub leg : ℕ
  pub stop : ℕ
  pub named : get_or l leg 0 ≡ q
  pub low : stop ≤ n
  pub order : leg < stop
  pub is : T (has w (get_or l stop 0))

-- what a look along the first n legs finds, where the nodes c have a clean job, and the nodes w a soiled one
pub record Shuts (l : List ℕ) (n c w : ℕ) (r : Shut) : Type 0 where
  pub clean : r.clean ≡ c
  pub soiled : r.soiled ≡ w
  pub late : (q : ℕ) → T (has r.late q) ↔ Late l w n q
  pub early : (q : ℕ) → T (has r.early q) ↔ Early l c n q

-- the leg that leaves q is shut to x
abbrev pub shut_to : Shut → ℕ → ℕ → Bool
shut_to r x q = has r.clean x && has r.late q || has r.soiled x && has r.early q
