-- The sheet of document 01 is accepted, each refusal is met by one altered number, and what comes first is refused first.
use Prim.Native.Nat.{ℕ}
use mathlib.Core.Path.{◌≡◌, refl}
use mathlib.Core.Bool.{true, false}
use mathlib.Core.List.{List, [], ◌∷◌}
use Rattle.laws.specs.Basic.{all_below, any_below, or_else, peak}
use Rattle.words.specs.Word.{word_at}
use Rattle.sheet.specs.Section.{head_refusal, limits_refusal, nodes_refusal, jobs_refusal, table_refusal, steps_refusal, later_refusal, read_refusal}
use Rattle.rules.specs.Class.{one_bit, admits}
use Rattle.rules.specs.Day.{is_inner, shortest_line, shortest_row, triangle}
use Rattle.rules.specs.declared.Job.TheVariants.{Transfer}
use Rattle.day.specs.Refuse.{call_refusal, open_refusal, clash, apart, can_ride, ends_admit}
use Rattle.day.specs.Section.{span_of, section_of}
use Rattle.day.specs.Tell.{van_of, bit_of, class_of, admitted, day_of, job_at, job_in}
use Rattle.tables.specs.Cell.{cell}
use Rattle.day.specs.Example.{◌▸◌, nodes_with, paper_jobs, table_with, steps_with, sheet_of, sheet_with, profile_sheet}

abbrev paper : List ℕ
paper = sheet_with 2 60 25 100

-- two clean jobs of load 2, the second at node x; the capacity, and the seconds from node 3 to node 0
abbrev clean_again : ℕ → ℕ → ℕ → List ℕ
clean_again capacity x back = sheet_of capacity 60 25 100 (2 ▸ 1 ▸ 1 ▸ 0 ▸ 2 ▸ 1 ▸ x ▸ 0 ▸ 2 ▸ table_with back (table_with 30 (steps_with 8)))

-- the paper's sheet with another capacity, another number of seconds from node 3 to node 0, and another count of steps
abbrev altered : ℕ → ℕ → ℕ → List ℕ
altered capacity back steps = sheet_of capacity 60 25 100 (paper_jobs (table_with back (table_with 30 (steps_with steps))))

-- the paper's sheet with two vans, of these capacities
abbrev two_vans : ℕ → ℕ → List ℕ
two_vans first second = 7 ▸ first ▸ 60 ▸ 1 ▸ second ▸ 50 ▸ 1 ▸ 0 ▸ nodes_with 25 100 (paper_jobs (table_with 30 (table_with 30 (steps_with 8))))

-- the paper's sheet with two vans of these bits, and these class sets at the start, the first ward and the end; the capacity of both, and the seconds from
-- node 3 to node 0
abbrev classed : ℕ → ℕ → ℕ → ℕ → ℕ → ℕ → ℕ → List ℕ
classed bit0 bit1 start ward end capacity back =
    7 ▸ capacity ▸ 60 ▸ bit0 ▸ capacity ▸ 50 ▸ bit1 ▸ 0
    ▸ 4 ▸ 0 ▸ 0 ▸ 0 ▸ start ▸ 0 ▸ 100 ▸ 5 ▸ ward ▸ 0 ▸ 25 ▸ 5 ▸ 1 ▸ 0 ▸ 100 ▸ 0 ▸ end
    ▸ paper_jobs (table_with back (table_with 30 (steps_with 8)))

record Computed : Type 0 where
  pub accepted : open_refusal paper ≡ 0
  pub left_over : open_refusal (altered 2 30 7) ≡ 1
  pub short : open_refusal (altered 2 30 9) ≡ 1
  pub many-steps : open_refusal (altered 2 30 2001) ≡ 2
  pub large : open_refusal (sheet_with 1001 60 25 100) ≡ 3
  pub two-nodes : open_refusal (clean_again 2 2 30) ≡ 0
  pub one-node : open_refusal (clean_again 2 1 30) ≡ 4
  pub roundabout : open_refusal (altered 2 31 8) ≡ 5
  -- the length before all else; a count's range before shortness, shortness before values, values before the next section; 4 before 5
  pub empty : open_refusal [] ≡ 1
  pub odd : open_refusal (2 ▸ 0 ∷ []) ≡ 1
  pub count-first : open_refusal (2 ▸ []) ≡ 2
  pub short-next : open_refusal (4 ▸ 9999 ▸ 0 ▸ 1 ▸ []) ≡ 1
  pub then-values : open_refusal (4 ▸ 9999 ▸ 0 ▸ 1 ▸ 0 ▸ []) ≡ 3
  pub both : open_refusal (clean_again 2 1 31) ≡ 4
  -- three words a van and one more, 4 to 25; 01's own count is 2
  pub no-van : open_refusal (1 ▸ 0 ▸ []) ≡ 2
  pub no-profile : open_refusal (3 ▸ []) ≡ 2
  pub half-a-van : open_refusal (5 ▸ []) ≡ 2
  pub eight-vans : open_refusal (25 ▸ []) ≡ 1
  pub nine-vans : open_refusal (28 ▸ []) ≡ 2
  pub two-vans : open_refusal (two_vans 2 1) ≡ 0
  pub large-second : open_refusal (two_vans 2 1001) ≡ 3
  -- load 2 above capacity 1: after 4, before 5, and the largest capacity counts, wherever it stands; just 2 is not above
  pub heavy : open_refusal (altered 1 30 8) ≡ 6
  pub heavy-twice : open_refusal (clean_again 1 1 30) ≡ 4
  pub heavy-roundabout : open_refusal (altered 1 31 8) ≡ 6
  pub heavy-for-both : open_refusal (two_vans 1 1) ≡ 6
  pub second-carries : open_refusal (two_vans 1 2) ≡ 0
  pub heavy-call : call_refusal (altered 1 30 8) ≡ 6
  -- "a bad set or bit is 3": a set is 1 to 255, a bit one of eight
  pub no-class : open_refusal (classed 1 1 1 0 1 2 30) ≡ 3
  pub any-class : open_refusal (classed 1 1 1 255 1 2 30) ≡ 0
  pub ninth-class : open_refusal (classed 1 1 1 256 1 2 30) ≡ 3
  pub no-bit : open_refusal (classed 1 0 1 1 1 2 30) ≡ 3
  pub two-bits : open_refusal (classed 1 3 255 1 255 2 30) ≡ 3
  pub eighth-bit : open_refusal (classed 1 128 129 1 255 2 30) ≡ 0
  pub ninth-bit : open_refusal (classed 1 256 255 1 255 2 30) ≡ 3
  -- "a start or end that does not admit a van is 7": either of them, any van; after 6, before 5; a ward may lack what it likes
  pub start-shut : open_refusal (classed 1 2 1 1 3 2 30) ≡ 7
  pub end-shut : open_refusal (classed 1 2 3 1 1 2 30) ≡ 7
  pub first-shut : open_refusal (classed 2 1 3 1 1 2 30) ≡ 7
  pub ward-shut : open_refusal (classed 1 2 3 4 3 2 30) ≡ 0
  pub shut-heavy : open_refusal (classed 1 2 1 1 1 1 30) ≡ 6
  pub shut-roundabout : open_refusal (classed 1 2 1 1 1 2 31) ≡ 7
  pub shut-call : call_refusal (classed 1 2 1 1 1 2 30) ≡ 7
  -- "1 for the profile, else 0", and "another number there is 3", which comes before 6
  pub profile-on : open_refusal (profile_sheet 2 1 paper_jobs) ≡ 0
  pub profile-two : open_refusal (profile_sheet 2 2 paper_jobs) ≡ 3
  pub profile-byte : open_refusal (profile_sheet 2 256 paper_jobs) ≡ 3
  pub profile-heavy : open_refusal (profile_sheet 1 2 paper_jobs) ≡ 3
  -- what the sheet says
  pub van : van_of paper 0 ≡ record { capacity = 2; limit = 60 }
  pub second-van : van_of (two_vans 2 1) 1 ≡ record { capacity = 1; limit = 50 }
  pub job : job_in paper 0 ≡ Transfer 1 2 2
  pub latest : (day_of paper).latest 2 ≡ 25
  pub seconds : (day_of paper).seconds 3 1 ≡ 20
  pub has-profile : (day_of (profile_sheet 2 1 paper_jobs)).profile ≡ true
  pub has-none : (day_of paper).profile ≡ false
  pub bit : bit_of (classed 1 2 3 4 3 2 30) 1 ≡ 2
  pub class : class_of (classed 1 2 3 4 3 2 30) 1 ≡ 4
  pub admitted-first : admitted (classed 1 2 3 6 3 2 30) 0 1 ≡ false
  pub admitted-second : admitted (classed 1 2 3 6 3 2 30) 1 1 ≡ true
  pub section1 : section_of (two_vans 2 1) 1 ≡ 2 ▸ 60 ▸ 1 ▸ 1 ▸ 50 ▸ 1 ▸ 0 ▸ []
  pub section2 : section_of paper 2 ≡ 0 ▸ 0 ▸ 0 ▸ 1 ▸ 0 ▸ 100 ▸ 5 ▸ 1 ▸ 0 ▸ 25 ▸ 5 ▸ 1 ▸ 0 ▸ 100 ▸ 0 ▸ 1 ▸ []
  pub section3 : section_of paper 3 ≡ 3 ▸ 1 ▸ 2 ▸ 2 ▸ []
  pub section7 : section_of paper 7 ≡ []
  pub refused3 : section_of (sheet_with 1001 60 25 100) 3 ≡ []
  pub refused6 : section_of (altered 1 30 8) 3 ≡ []
  pub refused7 : section_of (classed 1 2 1 1 1 2 30) 3 ≡ []
  pub refused5 : section_of (altered 2 31 8) 3 ≡ 3 ▸ 1 ▸ 2 ▸ 2 ▸ []

computed : Computed
unfolding word_at all_below any_below or_else peak one_bit admits ends_admit head_refusal limits_refusal nodes_refusal jobs_refusal table_refusal steps_refusal later_refusal read_refusal is_inner job_at clash apart can_ride cell shortest_line shortest_row triangle call_refusal open_refusal span_of section_of
computed = record {
  accepted = refl;
  left_over = refl;
  short = refl;
  many-steps = refl;
  large = refl;
  two-nodes = refl;
  one-node = refl;
  roundabout = refl;
  empty = refl;
  odd = refl;
  count-first = refl;
  short-next = refl;
  then-values = refl;
  both = refl;
  no-van = refl;
  no-profile = refl;
  half-a-van = refl;
  eight-vans = refl;
  nine-vans = refl;
  two-vans = refl;
  large-second = refl;
  heavy = refl;
  heavy-twice = refl;
  heavy-roundabout = refl;
  heavy-for-both = refl;
  second-carries = refl;
  heavy-call = refl;
  no-class = refl;
  any-class = refl;
  ninth-class = refl;
  no-bit = refl;
  two-bits = refl;
  eighth-bit = refl;
  ninth-bit = refl;
  start-shut = refl;
  end-shut = refl;
  first-shut = refl;
  ward-shut = refl;
  shut-heavy = refl;
  shut-roundabout = refl;
  shut-call = refl;
  profile-on = refl;
  profile-two = refl;
  profile-byte = refl;
  profile-heavy = refl;
  van = refl;
  second-van = refl;
  job = refl;
  latest = refl;
  seconds = refl;
  has-profile = refl;
  has-none = refl;
  bit = refl;
  class = refl;
  admitted-first = refl;
  admitted-second = refl;
  section1 = refl;
  section2 = refl;
  section3 = refl;
  section7 = refl;
  refused3 = refl;
  refused6 = refl;
  refused7 = refl;
  refused5 = refl;
}
