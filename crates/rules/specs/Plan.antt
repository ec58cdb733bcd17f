-- A state as the rules see it: the route, the open places, the marks. (Levels and records are the board's.)
use Rattle.std.specs.Prelude.{ℕ, ◌-◌, Bool, false, ◌&&◌, List, [], ◌∷◌, eqb}
use Rattle.laws.specs.Basic.{mem}
use Rattle.rules.specs.Day.{Day, inner}

-- the open places: `o x p` says that node x is open in the leg that leaves p
abbrev pub Places : Type 0
Places = ℕ → ℕ → Bool

-- a state as the rules see it: its route, its open places, its marks
pub record Plan : Type 0 where
  pub route : List ℕ
  pub places : Places
  pub marks : ℕ → Bool

-- fresh: route 0, n − 1; every other node that may be open is, in leg 0; no marks
abbrev pub fresh : Day → (ℕ → Bool) → Plan
fresh d may = record { route = 0 ∷ (d.n - 1) ∷ []; places = λ x p. mem x (inner d) && may x && eqb p 0; marks = λ x. false }
