-- The jobs by node, in one array of five parts with an entry for each node: the clean load, the soiled load, the load of a transfer that begins
-- there, of one that ends there, and the partner; at its end the most that one job loads.
use Rattle.std.specs.Prelude.{◌≡◌, ℕ, zero, suc, ◌+◌, ◌*◌, ◌<◌, ◌≤◌, true, cond, List, eqb, get_or, length}
use Rattle.laws.specs.Basic.{sum_below, peak}
use Rattle.bits.specs.Places.{has}
use Rattle.rules.specs.Load.{load_of}
use Rattle.rules.specs.declared.Job.{Job}
use Rattle.rules.specs.declared.Job.TheVariants.{Clean, Soiled, Transfer}
use Rattle.sheet.specs.Place.{Laid}
use Rattle.sheet.specs.declared.Layout.{Layout}
use Rattle.day.specs.Refuse.{call_refusal}
use Rattle.day.specs.Tell.{job_in}
use Rattle.along.specs.Route.{Route}

-- what a job loads as a clean job at x, as a soiled one, as a transfer that begins at x, as one that ends there
abbrev pub clean_load : ℕ → Job → ℕ
clean_load x = elim [ Clean a w ↦ cond (eqb x a) w 0 | Soiled a w ↦ 0 | Transfer a b w ↦ 0 ]

abbrev pub soiled_load : ℕ → Job → ℕ
soiled_load x = elim [ Clean a w ↦ 0 | Soiled a w ↦ cond (eqb x a) w 0 | Transfer a b w ↦ 0 ]

abbrev pub first_load : ℕ → Job → ℕ
first_load x = elim [ Clean a w ↦ 0 | Soiled a w ↦ 0 | Transfer a b w ↦ cond (eqb x a) w 0 ]

abbrev pub second_load : ℕ → Job → ℕ
second_load x = elim [ Clean a w ↦ 0 | Soiled a w ↦ 0 | Transfer a b w ↦ cond (eqb x b) w 0 ]

-- the other end of a transfer with an end at x, else y
abbrev pub mate_or : ℕ → ℕ → Job → ℕ
mate_or x y = elim [ Clean a w ↦ y | Soiled a w ↦ y | Transfer a b w ↦ cond (eqb x b) a (cond (eqb x a) b y) ]

-- the partner of x by the first k jobs, 0 where it has none
unfoldable pub mate_in : (ℕ → Job) → ℕ → ℕ → ℕ
mate_in g zero x = 0
mate_in g (suc k) x = mate_or x (mate_in g k x) (g k)

-- r is t with one job more, but for the most that one loads
pub record Entered (job : Job) (t r : List ℕ) : Type 0 where
  pub long : length r ≡ 321
  pub low : (i : ℕ) → get_or r i 0 ≤ get_or t i 0 + 4000
  pub clean : (x : ℕ) → x < 64 → get_or r x 0 ≡ get_or t x 0 + clean_load x job
  pub soiled : (x : ℕ) → x < 64 → get_or r (64 + x) 0 ≡ get_or t (64 + x) 0 + soiled_load x job
  pub first : (x : ℕ) → x < 64 → get_or r (128 + x) 0 ≡ get_or t (128 + x) 0 + first_load x job
  pub second : (x : ℕ) → x < 64 → get_or r (192 + x) 0 ≡ get_or t (192 + x) 0 + second_load x job
  pub partner : (x : ℕ) → x < 64 → get_or r (256 + x) 0 ≡ mate_or x (get_or t (256 + x) 0) job
  pub most : get_or r 320 0 ≡ get_or t 320 0

-- t has the first m jobs by node, in numbers far from the end of 32 bits
pub record ByNode (g : ℕ → Job) (m : ℕ) (t : List ℕ) : Type 0 where
  pub long : length t ≡ 321
  pub low : (i : ℕ) → get_or t i 0 ≤ 4000 * m
  pub near : (x : ℕ) → x < 64 → get_or t (256 + x) 0 < 64
  pub clean : (x : ℕ) → x < 64 → get_or t x 0 ≡ sum_below m (λ k. clean_load x (g k))
  pub soiled : (x : ℕ) → x < 64 → get_or t (64 + x) 0 ≡ sum_below m (λ k. soiled_load x (g k))
  pub first : (x : ℕ) → x < 64 → get_or t (128 + x) 0 ≡ sum_below m (λ k. first_load x (g k))
  pub second : (x : ℕ) → x < 64 → get_or t (192 + x) 0 ≡ sum_below m (λ k. second_load x (g k))
  pub partner : (x : ℕ) → x < 64 → get_or t (256 + x) 0 ≡ mate_in g m x
  pub heaviest : get_or t 320 0 ≡ peak (λ k. load_of (g k)) m

-- the set r has the partners of the members, and no other
pub record Mates (t : List ℕ) (members r : ℕ) : Type 0 where
  pub sound : (y : ℕ) → has r y ≡ true → (x : ℕ) × (has members x ≡ true) × (get_or t (256 + x) 0 ≡ y)
  pub full : (x : ℕ) → has members x ≡ true → has r (get_or t (256 + x) 0) ≡ true

-- what a walk along a route asks: a sheet that no call refuses, where it has what, a route in an array, and the jobs by node
pub record Routed (s : List ℕ) (at : Layout) (l : List ℕ) (n : ℕ) (t : List ℕ) : Type 0 where
  pub clear : call_refusal s ≡ 0
  pub laid : Laid s at
  pub route : Route at.nodes l n
  pub jobs : ByNode (job_in s) at.jobs t
