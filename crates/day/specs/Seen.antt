-- One pass over the jobs, which finds two that clash and the heaviest load: the nodes met so far as three words.
use Rattle.std.specs.Prelude.{ℕ, ◌<◌, ◌||◌, ◌≡◌}
use Rattle.laws.specs.Basic.{peak, any, tab}
use Rattle.bits.specs.Places.{has, with}
use Rattle.rules.specs.Load.{load_of}
use Rattle.rules.specs.Profile.{clean_at, soiled_at}
use Rattle.rules.specs.declared.Job.{Job}
use Rattle.rules.specs.declared.Job.TheVariants.{Clean, Soiled, Transfer}
use Rattle.day.specs.Refuse.{apart}
use Rattle.day.specs.declared.jobs.Seen.{Seen}
use Rattle.day.specs.declared.jobs.Looked.{Looked}

-- the job's nodes met too, and whether one of them, or of an earlier job's, had a job of this kind, or a transfer end, before
abbrev pub seeing : Seen → Job → Seen
seeing s (Clean a w) = record { clean = with s.clean a; soiled = s.soiled; ends = s.ends; twice = s.twice || has s.clean a }
seeing s (Soiled a w) = record { clean = s.clean; soiled = with s.soiled a; ends = s.ends; twice = s.twice || has s.soiled a }
seeing s (Transfer a b w) = record { clean = s.clean; soiled = s.soiled; ends = with (with s.ends a) b; twice = s.twice || (has s.ends a || has s.ends b) }

-- what the pass over the first m jobs g finds
pub record LookedOver (g : ℕ → Job) (m : ℕ) (r : Looked) : Type 0 where
  pub apart : r.apart ≡ apart g m
  pub heaviest : r.heaviest ≡ peak (λ i. load_of (g i)) m
  pub clean : (x : ℕ) → x < 64 → has r.clean x ≡ any (clean_at x) (tab m g)
  pub soiled : (x : ℕ) → x < 64 → has r.soiled x ≡ any (soiled_at x) (tab m g)

-- the nodes of a job have a place in a word
abbrev pub Placed : Job → Type 0
Placed (Clean a w) = a < 64
Placed (Soiled a w) = a < 64
Placed (Transfer a b w) = (a < 64) × (b < 64)
