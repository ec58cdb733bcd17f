-- Rounds: which belong to a plan, and which keep the rules.
use Rattle.std.specs.Prelude.{ℕ, ◌<◌, Bool, true, cond, not, ◌&&◌, ◌||◌, List, [], ◌∷◌, T, leb, eqb}
use Rattle.laws.specs.Basic.{mem, all}
use Rattle.rules.specs.Day.{Day}
use Rattle.rules.specs.declared.Van.{Van}
use Rattle.rules.specs.Leg.{every_leg}
use Rattle.rules.specs.Time.{on_time, driven}
use Rattle.rules.specs.Load.{carries}
use Rattle.rules.specs.Profile.{clean_first}
use Rattle.rules.specs.Plan.{Plan, Places}
use Rattle.rules.specs.declared.Job.{Job}
use Rattle.rules.specs.declared.Job.TheVariants.{Clean, Soiled, Transfer}

-- distinct nodes of a day of n
pub data Distinct (n : ℕ) : List ℕ → Type 0 where
  none : Distinct n []
  more : {x : ℕ} {l : List ℕ} → x < n → T (not (mem x l)) → Distinct n l → Distinct n (x ∷ l)

-- after the route's stop p: R runs through the rest r of the route, and each other node of it has an open place at the last route
-- node before it
pub data Within (o : Places) : ℕ → List ℕ → List ℕ → Type 0 where
  done : {p : ℕ} → Within o p [] []
  stop : {p k : ℕ} {r R : List ℕ} → Within o k r R → Within o p (k ∷ r) (k ∷ R)
  extra : {p x k : ℕ} {r R : List ℕ} → T (o x p) → Within o p (k ∷ r) R → Within o p (k ∷ r) (x ∷ R)

-- the same of whole rounds: both leave the start
pub data Inside (o : Places) : List ℕ → List ℕ → Type 0 where
  both : {z : ℕ} {r R : List ℕ} → Within o z r R → Inside o (z ∷ r) (z ∷ R)

-- the round R belongs to the plan
pub record Belongs (d : Day) (a : Plan) (R : List ℕ) : Type 0 where
  pub nodes : Distinct d.n R
  pub inside : Inside a.places a.route R
  pub needed : (x : ℕ) → T (a.marks x) → T (mem x R)

-- a before b, or neither of them
abbrev pub ordered : ℕ → ℕ → List ℕ → Bool
ordered a b [] = true
ordered a b (x ∷ R) = cond (eqb x a) (mem b R) (not (eqb x b) && ordered a b R)

-- the same of a job: only a transfer has an order
abbrev pub in_order : List ℕ → Job → Bool
in_order R = elim [ Clean a w ↦ true | Soiled a w ↦ true | Transfer a b w ↦ ordered a b R ]

-- ---- the rules

-- asked of the stops of a round, by van and day
abbrev pub Rule : Type 0
Rule = Van → Day → List ℕ → Bool

-- "start at 0 is its earliest; each later start is the larger of its earliest and (previous start + previous service + seconds)"; "start plus
-- service must not exceed latest, at every node" (02, No. 3)
abbrev pub window_rule : Rule
window_rule v d R = on_time d [] R

-- "the sum of metres is at most the limit"
abbrev pub metre_rule : Rule
metre_rule v d R = leb (driven d R) v.limit

-- "each transfer has both nodes in the round, first before second, or neither"
abbrev pub transfer_rule : Rule
transfer_rule v d R = all (in_order R) d.jobs

-- "on every leg the loads aboard sum to at most the capacity. Clean and soiled jobs count if their node is in the round."
abbrev pub load_rule : Rule
load_rule v d R = every_leg (carries v d) R

-- "For some buildings the infection team rules": where the sheet has the profile, clean comes before soiled (02, No. 11)
abbrev pub profile_rule : Rule
profile_rule v d R = not d.profile || clean_first d R

-- all of them
abbrev pub rules : List Rule
rules = window_rule ∷ metre_rule ∷ transfer_rule ∷ load_rule ∷ profile_rule ∷ []

-- the round keeps the rules
unfoldable pub keeps : Rule
keeps v d R = all (λ r. r v d R) rules
