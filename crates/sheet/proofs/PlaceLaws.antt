-- All that is known of an accepted sheet.
use Prim.Native.Nat.{ℕ, ◌+◌, ◌*◌, ◌%◌, ◌<◌}
use mathlib.Core.Bool.{true}
use mathlib.Core.Path.{◌≡◌, refl, sym, ap, ◌∙◌}
use mathlib.Core.List.{List}
use native.Mathlib.Omega.{arith}
use lib.Dec.{leb, ltb, eqb}
use borrow.Author.Tests.{leb-true, eqb-true, ne_eqb}
use Rattle.laws.specs.Basic.{all_below, or_else, unless}
use Rattle.laws.proofs.Choice.{or-else-zero, unless-zero}
use Rattle.laws.proofs.Logic.{and-true}
use Rattle.rules.specs.Numbers.{refusal, most_vans}
use Rattle.std.specs.Prelude.{Some, Result, Ok, Err, IfOk}
use Rattle.rules.specs.Refused.{number_in}
use Rattle.rules.specs.declared.Refusal.{Refusal}
use Rattle.rules.proofs.Refusals.{refuses}
use Rattle.words.specs.Word.{size, words, word_at, profile_ok, limits_at_ok}
use Rattle.sheet.specs.Section.{vans_at, vans_of, profile_at, nodes_at, jobs_at, head_refusal, limits_values, limits_refusal, nodes_refusal, jobs_refusal, table_refusal, steps_refusal, later_refusal, read_refusal}
use Rattle.sheet.specs.declared.Part.{Part}
use Rattle.sheet.specs.declared.Layout.{Layout}
use Rattle.sheet.specs.Place.{Stands, layout_of, Found, found, read_in, Headed, Fine, Laid}

pub head-zero : (s : List ℕ) (at lo hi width : ℕ) → head_refusal s at lo hi width ≡ 0 → Headed s at lo hi width
unfolding head_refusal
head-zero s at lo hi width h =
    let h2 = or-else-zero _ _ (or-else-zero _ _ h).1 in
    let r = and-true (leb lo (word_at s at)) (leb (word_at s at) hi) (unless-zero _ _ h2.0) in
    record {
      low = leb-true _ _ r.0;
      high = leb-true _ _ r.1;
      room = leb-true _ _ (unless-zero _ _ h2.1);
    }

-- what sections that are not refused tell of their counts
pub limits-zero : (s : List ℕ) → limits_refusal s ≡ 0 → (word_at s vans_at % size.van ≡ 1) × Headed s vans_at (size.van + 1) (size.van * most_vans + 1) 1
unfolding limits_refusal
limits-zero s h =
    let a = or-else-zero _ _ (or-else-zero _ _ h).1 in (eqb-true _ _ (unless-zero _ _ a.0), head-zero s _ _ _ _ (or-else-zero _ _ a.1).0)

-- the limits of a sheet whose count is there and leaves one word over: the tests that are left
pub limits-left : (s : List ℕ) → ltb vans_at (words s) ≡ true → eqb (word_at s vans_at % size.van) 1 ≡ true
    → or_else (head_refusal s vans_at (size.van + 1) (size.van * most_vans + 1) 1) (unless (limits_values s) refusal.VALUE) ≡ limits_refusal s
unfolding limits_refusal or_else
limits-left s a b = rw (a, b) refl

pub nodes-zero : (s : List ℕ) → nodes_refusal s ≡ 0 → Headed s (nodes_at s) 2 64 size.node
unfolding nodes_refusal
nodes-zero s h = head-zero s _ _ _ _ (or-else-zero _ _ h).0

pub jobs-zero : (s : List ℕ) → jobs_refusal s ≡ 0 → Headed s (jobs_at s) 0 155 size.job
unfolding jobs_refusal
jobs-zero s h = head-zero s _ _ _ _ (or-else-zero _ _ h).0

pub table-zero : (s : List ℕ) (n at : ℕ) → table_refusal s n at ≡ 0 → Headed s at (n * n) (n * n) 1
unfolding table_refusal
table-zero s n at h = head-zero s _ _ _ _ (or-else-zero _ _ h).0

-- a table that was read: the next section is behind its n·n entries
pub table-stands : (s : List ℕ) (n at : ℕ) {p : Part} → Stands s at 1 p → 0 ≡ table_refusal s n at → (p.from ≡ at + 1) × (p.end ≡ at + 1 + n * n)
table-stands s n at t z = let h = table-zero s n at (sym z) in (t.from, omega arith)

pub fine : (s : List ℕ) → read_refusal s ≡ 0 → Fine s
unfolding read_refusal later_refusal limits_refusal nodes_refusal jobs_refusal table_refusal steps_refusal
fine s h =
    let h0 = or-else-zero _ _ h in
    let h1 = or-else-zero _ _ h0.1 in
    let h2 = or-else-zero _ _ h1.1 in
    let h3 = or-else-zero _ _ h2.1 in
    let h4 = or-else-zero _ _ h3.1 in
    let h5 = or-else-zero _ _ h4.1 in
    let h6 = or-else-zero _ _ h5.1 in
    let vans = limits-zero s h1.0 in
    let hv = vans.1 in
    let rest = vans.0 in
    let values = and-true (all_below (vans_of s) (limits_at_ok s (vans_at + 1))) (profile_ok (word_at s (profile_at s))) (unless-zero _ _ (or-else-zero _ _ (or-else-zero _ _ (or-else-zero _ _ h1.0).1).1).1) in
    let nodes = or-else-zero _ _ h2.0 in
    let jobs = or-else-zero _ _ h3.0 in
    let hn = head-zero s _ _ _ _ nodes.0 in
    record {
      vans-low = omega (arith, hv.low);
      vans-high = omega (arith, hv.high);
      thrice = omega (arith, rest);
      n-low = hn.low;
      n-high = hn.high;
      m-high = (head-zero s _ _ _ _ jobs.0).high;
      k-high = (head-zero s _ _ _ _ h6.0).high;
      whole = eqb-true _ _ (unless-zero _ _ h0.0);
      long = eqb-true _ _ (unless-zero _ _ h6.1);
      limits = values.0;
      profile = values.1;
      nodes = unless-zero _ _ nodes.1;
      jobs = unless-zero _ _ jobs.1;
      seconds = unless-zero _ _ (or-else-zero _ _ h4.0).1;
      metres = unless-zero _ _ (or-else-zero _ _ h5.0).1;
    }

-- the layout that the sheet says, of a sheet whose sections are not refused
pub laid : {s : List ℕ} {l : Layout} → Fine s → l ≡ layout_of s → Laid s l
laid f e = record {
  is = e;
  fine = f;
  vans = ap (λ (l : Layout). l.vans) e;
  nodes = ap (λ (l : Layout). l.nodes) e;
  jobs = ap (λ (l : Layout). l.jobs) e;
  steps = ap (λ (l : Layout). l.steps) e;
  van = ap (λ (l : Layout). l.van) e;
  node = ap (λ (l : Layout). l.node) e;
  job = ap (λ (l : Layout). l.job) e;
  seconds = ap (λ (l : Layout). l.seconds) e;
  metres = ap (λ (l : Layout). l.metres) e;
  step = ap (λ (l : Layout). l.step) e;
}

-- what reading the sections hands on, by their layout
pub read-laid : (s : List ℕ) (r : Result Layout Refusal) → number_in r ≡ read_refusal s → IfOk r (λ l. l ≡ layout_of s) → IfOk r (Laid s)
read-laid s (Ok l) n e = laid (fine s (sym n)) e
read-laid s (Err r) n e = tt

-- ---- what reading a sheet hands on

-- what reading the sections hands on, whole
pub read-found : (s : List ℕ) (r : Result Layout Refusal) → number_in r ≡ read_refusal s → IfOk r (λ l. l ≡ layout_of s) → read_in r ≡ found read_refusal s
unfolding found
read-found s (Ok l) n e = rw (sym n, e) refl
read-found s (Err k) n e = rw (sym n, ne_eqb _ 0 (refuses k)) refl

-- the answer alone
pub found-answer : (asked : List ℕ → ℕ) (s : List ℕ) {f : Found} → f ≡ found asked s → f.answer ≡ asked s
unfolding found
found-answer asked s e = ap (λ (f : Found). f.answer) e

-- asked once the sections are read: the layout is the sheet's, whatever the answer
pub found-behind : (asked : List ℕ → ℕ) {s : List ℕ} {l : Layout} {k : ℕ} → 0 ≡ read_refusal s → Laid s l → k ≡ asked s
    → ◌≡◌ {A = Found} (record { answer = k; layout = Some l }) (found asked s)
unfolding found
found-behind asked z l e = rw (sym z, l.is, e) refl

-- asked further, and answered alike: the layout is as it was
pub found-still : (before asked : List ℕ → ℕ) {s : List ℕ} {f : Found} → f ≡ found before s → f.answer ≡ asked s → f ≡ found asked s
unfolding found
found-still before asked {s} e q = let h = sym (ap (λ (f : Found). f.answer) e) ∙ q in e ∙ rw h refl

pub word_low : (s : List ℕ) (i : ℕ) → word_at s i < 4294967296
unfolding word_at
word_low s i = omega arith
