-- Every section lies in the sheet, and what the code hands back is the section.
use Prim.Native.Nat.{ℕ, ◌+◌, ◌*◌, ◌≤◌}
use mathlib.Core.Path.{◌≡◌, sym, ap}
use mathlib.Core.List.{List, []}
use native.Mathlib.Omega.{arith}
use native.Mathlib.Nat.{zero-add}
use borrow.Author.Tests.{ne_eqb}
use lib.ListN.{length, take, drop}
use lib.Dec.{eqb}
use Rattle.laws.proofs.Logic.{decided}
use Rattle.sheet.specs.Place.{Fine, Laid}
use Rattle.sheet.specs.declared.Layout.{Layout}
use Rattle.day.specs.Refuse.{call_refusal}
use Rattle.day.specs.declared.Span.{Span}
use Rattle.day.specs.Section.{span_of, SpanIn, section_of, section_from, section_in}

section-lies : (s : List ℕ) (k : ℕ) → Fine s → 4 * (span_of s k).0 + 4 * (span_of s k).1 ≤ length s
unfolding span_of
section-lies s k h =
    decided (eqb k 1) (λ a. rw a (omega arith))
    (λ a. decided (eqb k 2) (λ b. rw (a, b) (omega arith))
    (λ b. decided (eqb k 3) (λ c. rw (a, b, c) (omega arith))
    (λ c. decided (eqb k 4) (λ d. rw (a, b, c, d) (omega arith))
    (λ d. decided (eqb k 5) (λ e. rw (a, b, c, d, e) (omega arith))
    (λ e. decided (eqb k 6) (λ f. rw (a, b, c, d, e, f) (omega arith)) (λ f. rw (a, b, c, d, e, f) (omega arith)))))))

-- every section lies in the sheet
pub span_fits : {s : List ℕ} {l : Layout} (k : ℕ) {p : Span} → Laid s l → SpanIn l k p → 4 * p.from + 4 * p.count ≤ length s
span_fits {s} k {p} h z = fits (p.from, p.count) (z s h.is)
  where
    fits : (q : ℕ × ℕ) → q ≡ span_of s k → 4 * q.0 + 4 * q.1 ≤ length s
    fits q e = rw e (section-lies s k h.fine)

pub section-none : (at : ℕ × ℕ) (s : List ℕ) (k : ℕ) → (call_refusal s ≡ 0 → ⊥) → (at, []) ≡ section_in at s k
unfolding section_of section_from
section-none at s k n = rw (ne_eqb (call_refusal s) 0 n) (ap (λ (o : ℕ). ((at.0, o), [])) (sym (zero-add at.1)))

-- from the section's first word to its last
pub section-is : (at : ℕ × ℕ) {s : List ℕ} {l : Layout} (k : ℕ) {p : Span} → call_refusal s ≡ 0 → Laid s l → SpanIn l k p
    → ((at.0, 4 * p.from + at.1), take (4 * p.count) (drop (4 * p.from) s)) ≡ section_in at s k
unfolding section_of section_from
section-is at {s} k z h e = rw z (ap (λ (x : ℕ × ℕ). ((at.0, 4 * x.0 + at.1), take (4 * x.1) (drop (4 * x.0) s))) (e s h.is))
