-- H and the loads at their largest.
use Rattle.std.specs.Prelude.{◌≡◌, ℕ, List}
use Rattle.laws.specs.Basic.{peak}
use Rattle.rules.specs.Day.{Day}
use Rattle.rules.specs.Load.{load_of}
use Rattle.rules.specs.Along.{load_at}
use Rattle.rules.specs.declared.Job.{Job}
use Rattle.along.specs.declared.loads.Peaks.{Peaks}

-- the most of H on the first n legs of the route m, and the most that one of the first j jobs g loads
pub record Peaked (d : Day) (m : List ℕ) (n : ℕ) (g : ℕ → Job) (j : ℕ) (p : Peaks) : Type 0 where
  pub highest : p.highest ≡ peak (load_at d m) n
  pub heaviest : p.heaviest ≡ peak (λ k. load_of (g k)) j
