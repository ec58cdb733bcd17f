-- A round of settling over all words, from arrays: which places the jobs leave, and all of them together.
use Rattle.std.specs.Prelude.{◌≡◌, ℕ, suc, ◌+◌, ◌-◌, Bool, true, not, ◌&&◌, ◌||◌, List, eqb, get_or, length, drop}
use Rattle.laws.specs.Basic.{all_below}
use Rattle.rules.specs.Day.{Day}
use Rattle.rules.specs.Profile.{unmixed}
use Rattle.rules.specs.Along.{behind}
use Rattle.rules.specs.declared.Job.{Job}
use Rattle.rules.specs.declared.Job.TheVariants.{Clean, Soiled, Transfer}
use Rattle.walks.specs.Walks.{Kept, rides_up, rides_down, from_start, to_end}
use Rattle.walks.specs.declared.Ride.{Ride}
use Rattle.walks.specs.declared.Partner.{Partner}
use Rattle.settle.specs.declared.strike.Pass.{Pass}

-- each word of vs keeps of the word of ws the places that pass f
pub record Kepts (l : List ℕ) (legs : ℕ) (f : ℕ → ℕ → Bool) (ws vs : List ℕ) : Type 0 where
  pub long : length vs ≡ 64
  pub at : (y : ℕ) → Kept l 0 legs (f y) (get_or ws y 0) (get_or vs y 0)

-- a test of one node's places
abbrev pub at_node : ℕ → (ℕ → Bool) → ℕ → ℕ → Bool
at_node x g y i = not (eqb x y) || g i

-- ---- the load tests by the case of the job

-- a load as it rides in a pass, and the node y with its places as a partner
abbrev pub ride_of : Pass → ℕ → Ride
ride_of p w = record { legs = p.stops - 1; highest = p.peaks.highest; capacity = p.van.capacity; load = w }

abbrev pub partner_at : List ℕ → ℕ → Partner
partner_at ws y = record { node = y; places = get_or ws y 0 }

-- the node of a clean or a soiled job; the first of a transfer
abbrev pub node_of : Job → ℕ
node_of (Clean a w) = a
node_of (Soiled a w) = a
node_of (Transfer a b w) = a

-- its load can be on the i-th leg: a clean one rides from the start, a soiled one to the end; a transfer is asked for itself
unfoldable pub load_rides : List ℕ → Pass → Job → ℕ → Bool
load_rides h p (Clean a w) i = from_start h (ride_of p w) i
load_rides h p (Soiled a w) i = to_end h (ride_of p w) i
load_rides h p (Transfer a b w) i = true

abbrev pub load_leaves : List ℕ → Pass → Job → ℕ → ℕ → Bool
load_leaves h p q = at_node (node_of q) (load_rides h p q)

-- each end of a transfer rides to the other, where it stands or has a place in ws
unfoldable pub pair_leaves : List ℕ → List ℕ → List ℕ → Pass → Job → ℕ → ℕ → Bool
pair_leaves ws l h p (Clean a w) y i = true
pair_leaves ws l h p (Soiled a w) y i = true
pair_leaves ws l h p (Transfer a b w) y i =
    at_node a (rides_down l h (ride_of p w) (partner_at ws b)) y i && at_node b (rides_up l h (ride_of p w) (partner_at ws a)) y i

-- the transfer that begins at x, by the jobs by node t
abbrev pub pair_from : List ℕ → ℕ → Job
pair_from t x = Transfer x (get_or t (256 + x) 0) (get_or t (128 + x) 0)

-- the ends of a transfer are two nodes
abbrev pub two_ends : Job → Bool
two_ends (Clean a w) = true
two_ends (Soiled a w) = true
two_ends (Transfer a b w) = not (eqb a b)

-- clean before soiled: y in the i-th leg of the route m mixes nothing, where the day has the profile
abbrev pub mixed_leaves : Day → List ℕ → ℕ → ℕ → Bool
mixed_leaves d m y i = not d.profile || unmixed d y (behind m (suc i)) (drop (suc i) m)

-- the first m of the jobs g pass f
unfoldable pub jobs_leave : (Job → ℕ → ℕ → Bool) → (ℕ → Job) → ℕ → ℕ → ℕ → Bool
jobs_leave f g m y i = all_below m (λ k. f (g k) y i)

-- ---- two arrays of words are the same

abbrev pub same_sets : List ℕ → List ℕ → Bool
same_sets a b = all_below 64 (λ i. eqb (get_or a i 0) (get_or b i 0))
