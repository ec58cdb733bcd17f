-- What reading a sheet hands on, and what is known of an accepted one.
use Rattle.std.specs.Prelude.{ℕ, ◌+◌, ◌*◌, ◌%◌, ◌≤◌, true, cond, ◌≡◌, Option, Some, None, Result, Ok, Err, List, length, eqb}
use Rattle.laws.specs.Basic.{all_below}
use Rattle.rules.specs.Numbers.{most_vans}
use Rattle.rules.specs.Refused.{number_of}
use Rattle.rules.specs.declared.Refusal.{Refusal}
use Rattle.words.specs.Word.{size, words, word_at, profile_ok, limits_at_ok, node_at_ok, job_at_ok, entry_ok}
use Rattle.sheet.specs.Section.{steps_at, vans_of, n_of, m_of, k_of, end_of, vans_at, profile_at, nodes_at, jobs_at, seconds_at, metres_at}
use Rattle.sheet.specs.Section.{read_refusal}
use Rattle.sheet.specs.declared.Part.{Part}
use Rattle.sheet.specs.declared.Layout.{Layout}

-- ---- one section

-- p is the section whose count stands at word `at` and counts entries of `width` words, which nothing refuses
pub record Stands (s : List ℕ) (at width : ℕ) (p : Part) : Type 0 where
  pub count : p.count ≡ word_at s at
  pub from : p.from ≡ at + 1
  pub end : p.end ≡ end_of s at width

-- ---- all sections

-- the layout that the sheet says: its counts, and the word of the first entry of each section
abbrev pub layout_of : List ℕ → Layout
layout_of s = record {
  vans = vans_of s;
  nodes = n_of s;
  jobs = m_of s;
  steps = k_of s;
  van = vans_at + 1;
  node = nodes_at s + 1;
  job = jobs_at s + 1;
  seconds = seconds_at s + 1;
  metres = metres_at s + 1;
  step = steps_at s + 1;
}

-- what reading a sheet hands on: the number that refuses it, or 0, and its layout, where there is one
pub record Found : Type 0 where
  pub answer : ℕ
  pub layout : Option Layout

-- what reading a sheet hands on: its refusal, and its layout where the sections are not refused
unfoldable pub found : (List ℕ → ℕ) → List ℕ → Found
found refusal s = record { answer = refusal s; layout = cond (eqb (read_refusal s) 0) (Some (layout_of s)) None }

-- what an answer of the code says of it
abbrev pub read_in : Result Layout Refusal → Found
read_in (Ok l) = record { answer = 0; layout = Some l }
read_in (Err e) = record { answer = number_of e; layout = None }

-- ---- what is known of an accepted sheet

-- a section whose count and length are not refused
pub record Headed (s : List ℕ) (at lo hi width : ℕ) : Type 0 where
  pub low : lo ≤ word_at s at
  pub high : word_at s at ≤ hi
  pub room : end_of s at width ≤ words s

-- a sheet whose sections are not refused: how long it is, and every rule of its words
pub record Fine (s : List ℕ) : Type 0 where
  pub vans-low : 1 ≤ vans_of s
  pub vans-high : vans_of s ≤ most_vans
  pub thrice : word_at s vans_at ≡ size.van * vans_of s + 1
  pub n-low : 2 ≤ n_of s
  pub n-high : n_of s ≤ 64
  pub m-high : m_of s ≤ 155
  pub k-high : k_of s ≤ 2000
  pub whole : length s % 4 ≡ 0
  pub long : words s ≡ end_of s (steps_at s) size.step
  pub limits : all_below (vans_of s) (limits_at_ok s (vans_at + 1)) ≡ true
  pub profile : profile_ok (word_at s (profile_at s)) ≡ true
  pub nodes : all_below (n_of s) (node_at_ok s (nodes_at s + 1)) ≡ true
  pub jobs : all_below (m_of s) (job_at_ok s (n_of s) (jobs_at s + 1)) ≡ true
  pub seconds : all_below (n_of s * n_of s) (entry_ok s (seconds_at s + 1)) ≡ true
  pub metres : all_below (n_of s * n_of s) (entry_ok s (metres_at s + 1)) ≡ true

-- l is the layout of the accepted sheet s: what every reader of the sheet asks of its caller. (The numbers stand by themselves too, for
-- arithmetic to find them.)
pub record Laid (s : List ℕ) (l : Layout) : Type 0 where
  pub is : l ≡ layout_of s
  pub fine : Fine s
  pub vans : l.vans ≡ vans_of s
  pub nodes : l.nodes ≡ n_of s
  pub jobs : l.jobs ≡ m_of s
  pub steps : l.steps ≡ k_of s
  pub van : l.van ≡ vans_at + 1
  pub node : l.node ≡ nodes_at s + 1
  pub job : l.job ≡ jobs_at s + 1
  pub seconds : l.seconds ≡ seconds_at s + 1
  pub metres : l.metres ≡ metres_at s + 1
  pub step : l.step ≡ steps_at s + 1
