-- Every number of a route in an array, and of its day, is small.
use mathlib.Core.Path.{◌≡◌, subst}
use mathlib.Core.Bool.{Bool, true, false, cond, not, ◌&&◌}
use mathlib.Core.List.{List}
use Prim.Native.Nat.{ℕ, ◌+◌, ◌-◌, ◌*◌, ◌<◌, ◌≤◌}
use native.Mathlib.Omega.{arith}
use lib.Dec.{leb, eqb}
use lib.ListN.{get_or, length-take}
use lib.Seq.{get_or-take}
use borrow.Author.Tests.{leb-true}
use Rattle.laws.proofs.Logic.{and-true}
use Rattle.rules.specs.Day.{is_inner}
use Rattle.rules.specs.declared.Job.{Job}
use Rattle.rules.specs.declared.Job.TheVariants.{Clean, Soiled, Transfer}
use Rattle.words.specs.Word.{size, word_at}
use Rattle.sheet.proofs.PlaceLaws.{word_low}
use Rattle.sheet.specs.Section.{n_of, jobs_at}
use Rattle.sheet.specs.Place.{Laid}
use Rattle.sheet.specs.declared.Layout.{Layout}
use Rattle.day.specs.Tell.{day_of, job_of, job_at, job_in, load_ok, job_fine}
use Rattle.day.proofs.Fit.{fine-job}
use Rattle.tables.specs.Cell.{cell}
use Rattle.rules.specs.Load.{load_of}
use Rattle.along.proofs.ReadyLaws.{jobs-are}
use Rattle.along.proofs.SpotLaws.{node-low}
use Rattle.along.proofs.TimeLaws.{Low}
use Rattle.along.proofs.Signed.{mag-below}
use Rattle.along.specs.Route.{Route}

pub node_at_lem : {k : ℕ} {l : List ℕ} {n : ℕ} → Route k l n → (i : ℕ) → i < n → get_or l i 0 < k
node_at_lem {k} {l} {n} r i h = subst (λ (x : ℕ). x < k) (get_or-take n l i 0 h) (node-low r.nodes i (omega (arith, length-take n l, r.long, r.most)))

-- one stop more than legs
pub stops-legs : {k : ℕ} {l : List ℕ} {n : ℕ} → Route k l n → n - 1 + 1 ≡ n
stops-legs r = omega (arith, r.some)

pub low : (s : List ℕ) → Low (day_of s)
unfolding cell
low s = record {
  earliest = λ x. word_low s _;
  moment = λ x. mag-below _ (word_low s _) (word_low s _);
  service = λ x. word_low s _;
  seconds = λ x y. word_low s _;
  metres = λ x y. word_low s _;
}

of_low : (k a b w : ℕ) → w < 4294967296 → load_of (job_of k a b w) < 4294967296
of_low k a b w h = go (eqb k 1) (eqb k 2)
  where
    go : (p q : Bool) → load_of (cond p (Clean a w) (cond q (Soiled a w) (Transfer a b w))) < 4294967296
    go true q = h
    go false true = h
    go false false = h

pub job-low : (s : List ℕ) (i : ℕ) → load_of (job_in s i) < 4294967296
unfolding job_at
job-low s i = let p = jobs_at s + 1 + size.job * i in of_low (word_at s p) (word_at s (p + 1)) (word_at s (p + 2)) (word_at s (p + 3)) (word_low s (p + 3))

fine-load : (n : ℕ) (j : Job) → job_fine n j ≡ true → load_ok (load_of j) ≡ true
fine-load n (Clean a w) e = (and-true (is_inner n a) (load_ok w) e).1
fine-load n (Soiled a w) e = (and-true (is_inner n a) (load_ok w) e).1
fine-load n (Transfer a b w) e = (and-true (is_inner n a && is_inner n b && not (eqb a b)) (load_ok w) e).1

-- a job of an accepted sheet loads something, and at most 1,000
pub job-load : {s : List ℕ} {at : Layout} → Laid s at → (i : ℕ) → i < at.jobs → (1 ≤ load_of (job_in s i)) × (load_of (job_in s i) ≤ 1000)
job-load {s} p i h =
    let w = load_of (job_in s i) in
    let b = and-true (leb 1 w) (leb w 1000) (fine-load (n_of s) (job_in s i) (fine-job s p.fine i (omega (arith, jobs-are p)))) in
    (leb-true 1 w b.0, leb-true w 1000 b.1)
