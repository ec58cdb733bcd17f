-- What a call on a sheet and its opening check: "then leftovers, 4, 5", with 6 "after 4 and before 5", and 7 "checked with 6, after it".
use Rattle.std.specs.Prelude.{ℕ, ◌-◌, ◌&&◌, Bool, false, not, ◌||◌, Some, Result, Ok, Err, List, leb, eqb}
use Rattle.laws.specs.Basic.{or_else, unless, all_below}
use Rattle.rules.specs.Numbers.{refusal}
use Rattle.rules.specs.Day.{triangle}
use Rattle.rules.specs.Load.{load_of}
use Rattle.rules.specs.Profile.{clean_at, soiled_at}
use Rattle.rules.specs.declared.Job.{Job}
use Rattle.rules.specs.declared.Job.TheVariants.{Clean, Soiled, Transfer}
use Rattle.rules.specs.Refused.{number_of}
use Rattle.sheet.specs.Section.{read_refusal, vans_of, n_of, m_of}
use Rattle.sheet.specs.Place.{Found}
use Rattle.sheet.specs.declared.Layout.{Layout}
use Rattle.day.specs.Tell.{seconds_of, metres_of, job_in, largest_of, admitted}
use Rattle.day.specs.declared.Refused.{Refused}

-- a transfer with an end at x
abbrev pub end_at : ℕ → Job → Bool
end_at x = elim [ Clean a w ↦ false | Soiled a w ↦ false | Transfer a b w ↦ eqb a x || eqb b x ]

-- "a node with two jobs of one kind, or two transfer ends"
unfoldable pub clash : Job → Job → Bool
clash (Clean a w) j = clean_at a j
clash (Soiled a w) j = soiled_at a j
clash (Transfer a b w) j = end_at a j || end_at b j

-- the i-th job clashes with none before it
abbrev pub apart_at : (ℕ → Job) → ℕ → Bool
apart_at g i = all_below i (λ j. not (clash (g i) (g j)))

-- no two of the first m jobs clash
unfoldable pub apart : (ℕ → Job) → ℕ → Bool
apart g m = all_below m (apart_at g)

-- none of the first m jobs is too heavy by itself: no "job load above the capacity"
unfoldable pub can_ride : (ℕ → Job) → ℕ → ℕ → Bool
can_ride g m capacity = all_below m (λ i. leb (load_of (g i)) capacity)

-- the start and the end admit every van of the sheet
unfoldable pub ends_admit : List ℕ → Bool
ends_admit s = all_below (vans_of s) (λ i. admitted s i 0 && admitted s i (n_of s - 1))

-- what every call on a sheet checks, or 0: the sections, "a node with two jobs of one kind, or two transfer ends", a load that can never ride, "a start or
-- end that does not admit a van"
unfoldable pub call_refusal : List ℕ → ℕ
call_refusal s =
    or_else (read_refusal s)
    (or_else (unless (apart (job_in s) (m_of s)) refusal.TWICE)
    (or_else (unless (can_ride (job_in s) (m_of s) (largest_of s)) refusal.HEAVY)
    (unless (ends_admit s) refusal.CLASS)))

-- what opening checks, or 0: the same, then "for some three different i, j, k: seconds or metres (i, k) above (i, j) + (j, k)"
unfoldable pub open_refusal : List ℕ → ℕ
open_refusal s = or_else (call_refusal s) (unless (triangle (n_of s) (seconds_of s) && triangle (n_of s) (metres_of s)) refusal.TRIANGLE)

-- what an answer of the code says of a sheet
abbrev pub found_in : Result Layout Refused → Found
found_in (Ok l) = record { answer = 0; layout = Some l }
found_in (Err r) = record { answer = number_of r.why; layout = r.at }
