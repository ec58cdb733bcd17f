-- E, L and H by the stop's place on the route, for code that keeps the route in an array.
use Rattle.std.specs.Prelude.{ℕ, zero, suc, List, [], ◌∷◌, ℤ, get_or, drop}
use Rattle.rules.specs.Day.{Day}
use Rattle.rules.specs.Time.{start, last_start}
use Rattle.rules.specs.Load.{load}

-- the stops before the i-th, the newest first
abbrev pub behind : List ℕ → ℕ → List ℕ
behind l zero = []
behind l (suc i) = get_or l i 0 ∷ behind l i

-- the i-th stop's E
abbrev pub start_at : Day → List ℕ → ℕ → ℕ
start_at d l i = start d (behind l i) (get_or l i 0)

-- the i-th stop's L
abbrev pub last_at : Day → List ℕ → ℕ → ℤ
last_at d l i = last_start d (drop (suc i) l) (get_or l i 0)

-- H of the leg that leaves the i-th stop
abbrev pub load_at : Day → List ℕ → ℕ → ℕ
load_at d l i = load d (behind l (suc i)) (drop (suc i) l)
