-- "Reading a section hands back that stretch of the sheet itself", "the entries, without their count".
use Rattle.std.specs.Prelude.{ℕ, ◌+◌, ◌*◌, cond, List, [], ◌≡◌, take, drop, eqb}
use Rattle.words.specs.Word.{size}
use Rattle.sheet.specs.Section.{vans_at, nodes_at, jobs_at, seconds_at, metres_at, steps_at, vans_of, n_of, m_of, k_of}
use Rattle.sheet.specs.Place.{layout_of}
use Rattle.sheet.specs.declared.Layout.{Layout}
use Rattle.day.specs.Refuse.{call_refusal}
use Rattle.day.specs.declared.Span.{Span}

-- the words of section k: where they begin, and how many they are; none for "a section number not in 1 to 6"
unfoldable pub span_of : List ℕ → ℕ → ℕ × ℕ
span_of s k =
    cond (eqb k 1) (vans_at + 1, size.van * vans_of s + 1)
    (cond (eqb k 2) (nodes_at s + 1, size.node * n_of s)
    (cond (eqb k 3) (jobs_at s + 1, size.job * m_of s)
    (cond (eqb k 4) (seconds_at s + 1, n_of s * n_of s)
    (cond (eqb k 5) (metres_at s + 1, n_of s * n_of s)
    (cond (eqb k 6) (steps_at s + 1, size.step * k_of s) (0, 0))))))

-- "For a sheet refused by 1 to 4, or a section number not in 1 to 6, the stretch is empty.", now by 6 and 7 too: by what every call checks
unfoldable pub section_of : List ℕ → ℕ → List ℕ
section_of s k = cond (eqb (call_refusal s) 0) (take (4 * (span_of s k).1) (drop (4 * (span_of s k).0) s)) []

-- the byte at which that stretch begins, counted from the sheet's first; with no section to read it lies at the sheet's beginning
unfoldable pub section_from : List ℕ → ℕ → ℕ
section_from s k = cond (eqb (call_refusal s) 0) (4 * (span_of s k).0) 0

-- "that stretch of the sheet itself, without copying it", of a sheet that lies at the place `at` (a block of memory, and how far into it): where the
-- stretch lies, in the same block, and its bytes
abbrev pub section_in : ℕ × ℕ → List ℕ → ℕ → (ℕ × ℕ) × List ℕ
section_in at s k = ((at.0, section_from s k + at.1), section_of s k)

-- for the code: the span p is that of section k, of every sheet with the layout l
abbrev pub SpanIn : Layout → ℕ → Span → Type 0
SpanIn l k p = (s : List ℕ) → l ≡ layout_of s → (p.from, p.count) ≡ span_of s k
