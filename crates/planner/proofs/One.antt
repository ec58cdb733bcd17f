-- One outcome, and the jobs that the bytes of a sheet say.
use Prim.Native.Nat.{ℕ, zero, suc, ◌<◌}
use mathlib.Core.Path.{◌≡◌, refl, sym, ap, ap₂, ◌∙◌}
use mathlib.Core.List.{◌∷◌, map}
use native.Mathlib.Omega.{arith}
use Rattle.sheet.specs.Section.{m_of}
use Rattle.day.specs.Tell.{kind_of, words_of, job_in}
use Rattle.rules.specs.declared.Job.{Job}
use Rattle.rules.specs.declared.Job.TheVariants.{Clean, Soiled, Transfer}
use Rattle.std.specs.Prelude.{Bool, List, Result, Ok, Err}
use Rattle.rules.specs.declared.Refusal.{Refusal}
use Rattle.rules.proofs.Refusals.{refuses, same_refusal}
use Rattle.fleet.specs.declared.Fleet.{Fleet}
use Rattle.rules.specs.Refused.{number_in}
use Rattle.trail.specs.Steps.{rounds_of}
use Rattle.turns.specs.Together.{RanAll, acted_all}
use Rattle.planner.specs.Face.{Opened, Counted, Judged, opened, counted, judged}
use Rattle.planner.specs.Promises.{OneOutcome, JobsRead, job_entry}
use Rattle.day.proofs.RefuseLaws.{call-fine}
use Rattle.day.proofs.Fit.{same-words}
use Rattle.laws.specs.Basic.{hd, tab}

-- a contract that equates the outcome with one definition, on either side, allows one
pub equated : {A : Type 0} (x : A) → OneOutcome (λ r. r ≡ x)
equated x r r' p q = p ∙ sym q

-- what an answer of the code says fixes the answer
pub one-opened : (x : Opened) → OneOutcome (λ r. opened r ≡ x)
one-opened x r r' p q = go r r' (p ∙ sym q)
  where
    go : (r r' : Result Fleet Refusal) → opened r ≡ opened r' → r ≡ r'
    go (Ok f) (Ok g) e = ap Ok (ap (λ (o : Opened). o.fleet) e)
    go (Ok f) (Err k) e = absurd (refuses k (sym (ap (λ (o : Opened). o.answer) e)))
    go (Err k) (Ok f) e = absurd (refuses k (ap (λ (o : Opened). o.answer) e))
    go (Err j) (Err k) e = ap Err (same_refusal j k (ap (λ (o : Opened). o.answer) e))

pub one-stepped : (x : RanAll) → OneOutcome (λ (r : Result ℕ Refusal × Fleet × List ℕ). x ≡ acted_all (number_in r.0) (rounds_of r.0) r.1 r.2)
one-stepped x r r' p q = go r.0 r'.0 r.1 r'.1 r.2 r'.2 (sym p ∙ q)
  where
    go : (r r' : Result ℕ Refusal) (f f' : Fleet) (t t' : List ℕ) → acted_all (number_in r) (rounds_of r) f t ≡ acted_all (number_in r') (rounds_of r') f' t'
        → ◌≡◌ {A = Result ℕ Refusal × Fleet × List ℕ} (r, f, t) (r', f', t')
    go (Ok m) (Ok n) f f' t t' e = λ i. (Ok (e i).0.rounds, (e i).0.fleet, (e i).1)
    go (Ok m) (Err k) f f' t t' e = absurd (refuses k (sym (ap (λ (o : RanAll). o.0.answer) e)))
    go (Err k) (Ok m) f f' t t' e = absurd (refuses k (ap (λ (o : RanAll). o.0.answer) e))
    go (Err j) (Err k) f f' t t' e = let s = same_refusal j k (ap (λ (o : RanAll). o.0.answer) e) in λ i. (Err (s i), (e i).0.fleet, (e i).1)

pub one-counted : (x : Counted) → OneOutcome (λ r. counted r ≡ x)
one-counted x r r' p q = go r r' (p ∙ sym q)
  where
    go : (r r' : Result ℕ Refusal) → counted r ≡ counted r' → r ≡ r'
    go (Ok m) (Ok n) e = ap Ok (ap (λ (o : Counted). o.places) e)
    go (Ok m) (Err k) e = absurd (refuses k (sym (ap (λ (o : Counted). o.answer) e)))
    go (Err k) (Ok m) e = absurd (refuses k (ap (λ (o : Counted). o.answer) e))
    go (Err j) (Err k) e = ap Err (same_refusal j k (ap (λ (o : Counted). o.answer) e))

pub one-judged : (x : Judged) → OneOutcome (λ r. judged r ≡ x)
one-judged x r r' p q = go r r' (p ∙ sym q)
  where
    go : (r r' : Result Bool Refusal) → judged r ≡ judged r' → r ≡ r'
    go (Ok m) (Ok n) e = ap Ok (ap (λ (o : Judged). o.alive) e)
    go (Ok m) (Err k) e = absurd (refuses k (sym (ap (λ (o : Judged). o.answer) e)))
    go (Err k) (Ok m) e = absurd (refuses k (ap (λ (o : Judged). o.answer) e))
    go (Err j) (Err k) e = ap Err (same_refusal j k (ap (λ (o : Judged). o.answer) e))

-- ---- the jobs

-- what is true of every entry is true of the list
mapped : {A B : Type 0} (f : A → B) (n : ℕ) (g : ℕ → A) (h : ℕ → B) → ((i : ℕ) → i < n → f (g i) ≡ h i) → map f (tab n g) ≡ tab n h
unfolding tab
mapped f zero g h e = refl
mapped f (suc n) g h e = ap₂ ◌∷◌ (e 0 (omega arith)) (mapped f n (λ k. g (suc k)) (λ k. h (suc k)) (λ i l. e (suc i) (omega arith)))

-- a job's words begin with its kind
kind-first : (q : Job) → kind_of q ≡ hd (words_of q)
kind-first (Clean a w) = refl
kind-first (Soiled a w) = refl
kind-first (Transfer a b w) = refl

pub jobs-read : JobsRead
jobs-read sheet z = (
  mapped kind_of (m_of sheet) (job_in sheet) (λ i. hd (job_entry sheet i)) (λ i l. kind-first (job_in sheet i) ∙ ap hd (same-words sheet (call-fine sheet z) i l)),
  mapped words_of (m_of sheet) (job_in sheet) (job_entry sheet) (same-words sheet (call-fine sheet z)),
)
