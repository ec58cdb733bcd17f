-- The sections of a sheet: where each stands, and what reading them finds: "First the length, then sections in order (count, shortness, values), then
-- leftovers".
use Rattle.std.specs.Prelude.{ℕ, ◌+◌, ◌*◌, ◌/◌, ◌%◌, Bool, ◌&&◌, List, length, leb, ltb, eqb}
use Rattle.laws.specs.Basic.{all_below, or_else, unless}
use Rattle.rules.specs.Numbers.{refusal, most_vans}
use Rattle.words.specs.Word.{size, words, word_at, profile_ok, limits_at_ok, node_at_ok, job_at_ok, entry_ok}

-- ---- where a section stands: the word of its count, then its first entry; each section behind the one before it

-- the word of the count of section 1, the limits
abbrev pub vans_at : ℕ
vans_at = 0

-- the number of vans that the sheet says: the count of the limits is of words, as many for each van, and one more
abbrev pub vans_of : List ℕ → ℕ
vans_of s = word_at s vans_at / size.van

-- "Every sheet's limits section ends with one more number": its word, behind the vans
abbrev pub profile_at : List ℕ → ℕ
profile_at s = vans_at + 1 + size.van * vans_of s

-- the word of the count of section 2, the nodes
abbrev pub nodes_at : List ℕ → ℕ
nodes_at s = vans_at + 1 + word_at s vans_at

-- the number of nodes that the sheet says
abbrev pub n_of : List ℕ → ℕ
n_of s = word_at s (nodes_at s)

-- the word of the count of section 3, the jobs
abbrev pub jobs_at : List ℕ → ℕ
jobs_at s = nodes_at s + 1 + size.node * n_of s

-- the number of jobs that the sheet says
abbrev pub m_of : List ℕ → ℕ
m_of s = word_at s (jobs_at s)

-- the word of the count of section 4, the seconds
abbrev pub seconds_at : List ℕ → ℕ
seconds_at s = jobs_at s + 1 + size.job * m_of s

-- the word of the count of section 5, the metres
abbrev pub metres_at : List ℕ → ℕ
metres_at s = seconds_at s + 1 + n_of s * n_of s

-- the word of the count of section 6, the steps
abbrev pub steps_at : List ℕ → ℕ
steps_at s = metres_at s + 1 + n_of s * n_of s

-- the number of steps that the sheet says
abbrev pub k_of : List ℕ → ℕ
k_of s = word_at s (steps_at s)

-- the word behind a section whose count stands at word `at` and counts entries of `width` words
abbrev pub end_of : List ℕ → ℕ → ℕ → ℕ
end_of s at width = at + 1 + width * word_at s at

-- ---- what reading the sections finds

-- count and shortness of a section whose count stands at word `at`, is to be lo to hi, and counts entries of `width` words
unfoldable pub head_refusal : List ℕ → ℕ → ℕ → ℕ → ℕ → ℕ
head_refusal s at lo hi width =
    or_else (unless (ltb at (words s)) refusal.SHORT)
    (or_else (unless (leb lo (word_at s at) && leb (word_at s at) hi) refusal.COUNT)
    (unless (leb (end_of s at width) (words s)) refusal.SHORT))

-- the values of the limits: those of each van, and the number behind them
abbrev pub limits_values : List ℕ → Bool
limits_values s = all_below (vans_of s) (limits_at_ok s (vans_at + 1)) && profile_ok (word_at s (profile_at s))

-- "The limits section's count becomes twice the number of vans, 2 to 16", with "each van a third number" three times, and with "one more number" 4 to 25: the
-- count is of words, and one that leaves a van with fewer is out of its range too
unfoldable pub limits_refusal : List ℕ → ℕ
limits_refusal s =
    or_else (unless (ltb vans_at (words s)) refusal.SHORT)
    (or_else (unless (eqb (word_at s vans_at % size.van) 1) refusal.COUNT)
    (or_else (head_refusal s vans_at (size.van + 1) (size.van * most_vans + 1) 1)
    (unless (limits_values s) refusal.VALUE)))

-- "nodes: count n, 2 to 64"
unfoldable pub nodes_refusal : List ℕ → ℕ
nodes_refusal s = or_else (head_refusal s (nodes_at s) 2 64 size.node) (unless (all_below (n_of s) (node_at_ok s (nodes_at s + 1))) refusal.VALUE)

-- "jobs: count 0 to 155"
unfoldable pub jobs_refusal : List ℕ → ℕ
jobs_refusal s = or_else (head_refusal s (jobs_at s) 0 155 size.job) (unless (all_below (m_of s) (job_at_ok s (n_of s) (jobs_at s + 1))) refusal.VALUE)

-- "seconds: count n·n, row by row"; "metres: likewise"
unfoldable pub table_refusal : List ℕ → ℕ → ℕ → ℕ
table_refusal s n at = or_else (head_refusal s at (n * n) (n * n) 1) (unless (all_below (n * n) (entry_ok s (at + 1))) refusal.VALUE)

-- "steps: count 0 to 2,000; each three words", and then "words left over". "Step words are judged when run."
unfoldable pub steps_refusal : List ℕ → ℕ
steps_refusal s = or_else (head_refusal s (steps_at s) 0 2000 size.step) (unless (eqb (words s) (end_of s (steps_at s) size.step)) refusal.SHORT)

-- sections 4 to 6
unfoldable pub later_refusal : List ℕ → ℕ
later_refusal s = or_else (table_refusal s (n_of s) (seconds_at s)) (or_else (table_refusal s (n_of s) (metres_at s)) (steps_refusal s))

-- the length, the sections in order, what is left over; or 0
unfoldable pub read_refusal : List ℕ → ℕ
read_refusal s =
    or_else (unless (eqb (length s % 4) 0) refusal.SHORT)
    (or_else (limits_refusal s) (or_else (nodes_refusal s) (or_else (jobs_refusal s) (later_refusal s))))
