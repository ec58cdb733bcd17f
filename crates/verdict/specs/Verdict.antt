-- The verdict's parts: who is joined to whom, who is open, what a route keeps by itself.
use Rattle.std.specs.Prelude.{ℕ, Bool, not, ◌&&◌, ◌||◌, List, [], ◌≡◌, leb, eqb, get_or}
use Rattle.laws.specs.Basic.{all, mem}
use Rattle.bits.specs.Places.{has}
use Rattle.rules.specs.Day.{Day}
use Rattle.rules.specs.declared.Van.{Van}
use Rattle.rules.specs.Leg.{every_leg}
use Rattle.rules.specs.Time.{on_time, driven}
use Rattle.rules.specs.Load.{carries}
use Rattle.rules.specs.Profile.{clean_first}
use Rattle.rules.specs.Verdict.{partnered, wrong_way}
use Rattle.along.specs.Nodes.{Mates}
use Rattle.verdict.specs.declared.Course.{Course}
use Rattle.rules.specs.declared.Job.{Job}

-- the job is a transfer between x and y
abbrev pub joins : ℕ → ℕ → Job → Bool
joins x y = partnered (λ z. eqb z y) x

-- y has an open place
abbrev pub opened : List ℕ → ℕ → Bool
opened ws y = not (eqb (get_or ws y 0) 0)

-- x is open if it is a member
unfoldable pub member_open : List ℕ → ℕ → ℕ → Bool
member_open ws w x = not (has w x) || opened ws x

-- windows and metres: no start of the route is too late, and it is within the limit
unfoldable pub road_kept : ℕ → Day → List ℕ → Bool
road_kept limit d l = on_time d [] l && leb (driven d l) limit

-- ---- with the jobs by node

-- the loads and the order of the transfers: no leg is above the capacity, no transfer is in wrong order
unfoldable pub load_kept : Van → Day → List ℕ → Bool
load_kept v d m = every_leg (carries v d) m && all (λ j. not (wrong_way m j)) d.jobs

-- clean before soiled, where the day has the profile
unfoldable pub profile_kept : Day → List ℕ → Bool
profile_kept d m = not d.profile || clean_first d m

-- what hangs on the route m alone: whether it keeps windows, metres, loads, the order of its transfers and the profile; its nodes, and their partners
pub record Coursed (v : Van) (d : Day) (t m : List ℕ) (c : Course) : Type 0 where
  pub keeps : c.keeps ≡ (road_kept v.limit d m && load_kept v d m && profile_kept d m)
  pub on : (x : ℕ) → has c.on x ≡ mem x m
  pub called : Mates t c.on c.called
