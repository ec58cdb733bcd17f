-- What settling reads of a route, and what it gives.
use Rattle.std.specs.Prelude.{◌≡◌, ℕ, ◌-◌, ◌<◌, List, take, ℤ, pos}
use Rattle.laws.specs.Basic.{Filled}
use Rattle.rules.specs.Day.{Day}
use Rattle.rules.specs.declared.Van.{Van}
use Rattle.rules.specs.Settle.{settle, rounds}
use Rattle.rules.specs.Along.{last_at, load_at}
use Rattle.sheet.specs.declared.Layout.{Layout}
use Rattle.day.specs.Tell.{day_of, job_in}
use Rattle.along.specs.Loads.{Peaked}
use Rattle.along.specs.Spots.{Spots}
use Rattle.along.specs.Sets.{places_in, sets_of}
use Rattle.walks.specs.Walks.{Before}
use Rattle.settle.specs.declared.strike.Pass.{Pass}

-- what is read of a route for all rounds: L, H and their peaks, the spots, and the nodes before each stop
pub record Read (s : List ℕ) (at : Layout) (l : List ℕ) (p : Pass) (z : List ℤ) (h a b : List ℕ) : Type 0 where
  pub lasts : Filled 64 (last_at (day_of s) (take p.stops l)) (pos 0) p.stops z
  pub loads : Filled 64 (load_at (day_of s) (take p.stops l)) 0 (p.stops - 1) h
  pub peaks : Peaked (day_of s) (take p.stops l) (p.stops - 1) (job_in s) at.jobs p.peaks
  pub spots : Spots l p.stops a
  pub before : Before l (p.stops - 1) b
  pub limit : p.van.limit < 1099511627776

-- settling of the words ws on the route rt: r rounds struck, and the words after have the places that 01's rounds leave
pub record Settles (v : Van) (d : Day) (rt ws : List ℕ) (r : ℕ) (vs : List ℕ) : Type 0 where
  pub rounds : r ≡ rounds v d rt (places_in ws)
  pub sets : vs ≡ sets_of (settle v d rt (places_in ws))
  pub still : r ≡ 0 → vs ≡ ws
