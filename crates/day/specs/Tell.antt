-- What the bytes of a sheet tell: its jobs, by cases; its tables, "row by row"; the day and the vans of the rules; its steps.
use Rattle.std.specs.Prelude.{ℕ, ◌+◌, ◌*◌, ◌≤◌, ◌≡◌, List, [], ◌∷◌, Bool, cond, ◌&&◌, not, leb, eqb}
use Rattle.laws.specs.Basic.{peak, tab}
use Rattle.words.specs.Word.{size, word_at}
use Rattle.tables.specs.Cell.{cell}
use Rattle.sheet.specs.Section.{vans_of, n_of, m_of, vans_at, profile_at, nodes_at, steps_at, seconds_at, metres_at, jobs_at}
use Rattle.rules.specs.Numbers.{step_said}
use Rattle.rules.specs.Day.{Day, is_inner}
use Rattle.rules.specs.Class.{admits}
use Rattle.rules.specs.declared.Van.{Van}
use Rattle.rules.specs.declared.Step.{Step}
use Rattle.rules.specs.declared.Job.{Job}
use Rattle.rules.specs.declared.Job.TheVariants.{Clean, Soiled, Transfer}

-- 01's number of each case: "Kinds are 1, 2, 3"
abbrev pub kind_of : Job → ℕ
kind_of (Clean a w) = 1
kind_of (Soiled a w) = 2
kind_of (Transfer a b w) = 3

-- a job as the sheet writes it: "kind, a, b, load"; "For kinds 1 and 2, b is 0"
abbrev pub words_of : Job → List ℕ
words_of (Clean a w) = kind_of (Clean a w) ∷ a ∷ 0 ∷ w ∷ []
words_of (Soiled a w) = kind_of (Soiled a w) ∷ a ∷ 0 ∷ w ∷ []
words_of (Transfer a b w) = kind_of (Transfer a b w) ∷ a ∷ b ∷ w ∷ []

-- the job that four words say
abbrev pub job_of : ℕ → ℕ → ℕ → ℕ → Job
job_of kind a b load = cond (eqb kind 1) (Clean a load) (cond (eqb kind 2) (Soiled a load) (Transfer a b load))

-- the i-th job of a section whose entries begin at word `from`
unfoldable pub job_at : List ℕ → ℕ → ℕ → Job
job_at s from i = let p = from + size.job * i in job_of (word_at s p) (word_at s (p + 1)) (word_at s (p + 2)) (word_at s (p + 3))

-- the i-th job of the sheet
abbrev pub job_in : List ℕ → ℕ → Job
job_in s = job_at s (jobs_at s + 1)

-- what the rules of the sheet's words make of a job, by cases
abbrev pub load_ok : ℕ → Bool
load_ok w = leb 1 w && leb w 1000

abbrev pub job_fine : ℕ → Job → Bool
job_fine n (Clean a w) = is_inner n a && load_ok w
job_fine n (Soiled a w) = is_inner n a && load_ok w
job_fine n (Transfer a b w) = is_inner n a && is_inner n b && not (eqb a b) && load_ok w

-- section 4: the seconds from i to j
abbrev pub seconds_of : List ℕ → ℕ → ℕ → ℕ
seconds_of s = cell s (seconds_at s + 1) (n_of s)

-- section 5: the metres from i to j
abbrev pub metres_of : List ℕ → ℕ → ℕ → ℕ
metres_of s = cell s (metres_at s + 1) (n_of s)

-- the first word of the i-th van
abbrev pub van_at : ℕ → ℕ
van_at i = vans_at + 1 + size.van * i

-- the i-th van: "capacity, metre limit"
abbrev pub van_of : List ℕ → ℕ → Van
van_of s i = record { capacity = word_at s (van_at i); limit = word_at s (van_at i + 1) }

-- "the largest capacity" of the sheet's vans
abbrev pub largest_of : List ℕ → ℕ
largest_of s = peak (λ i. (van_of s i).capacity) (vans_of s)

-- "each van a third number": the i-th van's bit
abbrev pub bit_of : List ℕ → ℕ → ℕ
bit_of s i = word_at s (van_at i + 2)

-- the first word of the x-th node
abbrev pub node_at : List ℕ → ℕ → ℕ
node_at s x = nodes_at s + 1 + size.node * x

-- "each node gets a fourth word": the x-th node's class set
abbrev pub class_of : List ℕ → ℕ → ℕ
class_of s x = word_at s (node_at s x + 3)

-- node x admits the i-th van
abbrev pub admitted : List ℕ → ℕ → ℕ → Bool
admitted s i x = admits (class_of s x) (bit_of s i)

-- "nodes: each: earliest, latest, service"; the jobs; the tables; and "1 for the profile, else 0"
abbrev pub day_of : List ℕ → Day
day_of s = record {
  n = n_of s;
  earliest = λ x. word_at s (node_at s x);
  latest = λ x. word_at s (node_at s x + 1);
  service = λ x. word_at s (node_at s x + 2);
  seconds = seconds_of s;
  metres = metres_of s;
  jobs = tab (m_of s) (job_in s);
  profile = eqb (word_at s (profile_at s)) 1;
}

-- word k of the i-th step: "each three words"
abbrev pub step_word : List ℕ → ℕ → ℕ → ℕ
step_word s i k = word_at s (steps_at s + 1 + size.step * i + k)

-- the i-th step
abbrev pub step_in : List ℕ → ℕ → Step
step_in s i = step_said (step_word s i 0) (step_word s i 1) (step_word s i 2)

-- what a reader ensures: its answer is the value v, which is at most hi
pub record Told (v hi r : ℕ) : Type 0 where
  pub is : r ≡ v
  pub low : r ≤ hi
