use Rattle.std.proofs.Common.{◌≡◌, ◌∙◌, ◌*◌, ◌/◌, ◌≤◌, ◌<◌, List, ℕ, refl, arith}
use Rattle.std.proofs.Math.Nat.{mul-le-mul}
use Rattle.laws.specs.Basic.{or_else}
use Rattle.words.specs.Word.{size}
use Rattle.rules.proofs.Refusals.{handed, handed_on, gone_on}
use Rattle.sheet.specs.Section.{n_of, seconds_at, metres_at, limits_refusal, nodes_refusal, jobs_refusal, table_refusal, steps_refusal, later_refusal}
use Rattle.sheet.proofs.PlaceLaws.{limits-zero, nodes-zero, jobs-zero, table-stands}
use Rattle.sheet.proofs.later.Goals as goal

-- what is left to ask once the seconds are fine, and once the metres are too
past-seconds : (s : List ℕ) → 0 ≡ table_refusal s (n_of s) (seconds_at s) → or_else (table_refusal s (n_of s) (metres_at s)) (steps_refusal s) ≡ later_refusal s
unfolding later_refusal
past-seconds s z = gone_on _ z refl

past-metres : (s : List ℕ) → 0 ≡ table_refusal s (n_of s) (seconds_at s) → 0 ≡ table_refusal s (n_of s) (metres_at s) → steps_refusal s ≡ later_refusal s
past-metres s z m = gone_on _ m refl ∙ past-seconds s z

-- a sheet whose first three sections are fine is short up to there, and has few nodes
record Few (s : List ℕ) : Type 0 where
  n : n_of s ≤ 64
  square : n_of s * n_of s ≤ 4096
  at : seconds_at s < 80000

few : (s : List ℕ) → (limits_refusal s ≡ 0) × (nodes_refusal s ≡ 0) × (jobs_refusal s ≡ 0) → Few s
few s f =
    let v = limits-zero s f.0 in
    let n = nodes-zero s f.1 in
    let j = jobs-zero s f.2 in
    record { n = n.high; square = omega (arith, mul-le-mul n.high n.high); at = omega arith }

pub table-requires : goal.table-requires
table-requires c =
    let f = few c.args.s.now c.requires.fine in
    let p = c.requires.stands in
    omega (arith, p.1.count, p.2.end)

pub returns-in_err-seconds-clause-number : goal.returns-in_err-seconds-clause-number
unfolding later_refusal
returns-in_err-seconds-clause-number c =
    let p = c.requires.stands in
    handed _ _ c.from_residual.ensures.1 (handed_on _ _ (rw (p.1.count, p.2.end) at c.in_err-seconds.ensures.number))

pub table-requires-2 : goal.table-requires-2
table-requires-2 c =
    let f = few c.args.s.now c.requires.fine in
    let p = c.requires.stands in
    let z = rw (p.1.count, p.2.end) at c.in_ok-seconds.ensures.number in
    let t = table-stands _ _ _ (rw p.2.end at c.in_ok-seconds.ensures.part) z in
    omega (arith, p.1.count)

pub returns-in_err-metres-clause-number : goal.returns-in_err-metres-clause-number
returns-in_err-metres-clause-number c =
    let p = c.requires.stands in
    let z = rw (p.1.count, p.2.end) at c.in_ok-seconds.ensures.number in
    let t = table-stands _ _ _ (rw p.2.end at c.in_ok-seconds.ensures.part) z in
    handed _ _ c.from_residual-in_err-metres.ensures.1 (handed_on _ _ (rw (p.1.count, t.1) at c.in_err-metres.ensures.number) ∙ past-seconds _ z)

pub steps-requires : goal.steps-requires
steps-requires c =
    let f = few c.args.s.now c.requires.fine in
    let p = c.requires.stands in
    let z = rw (p.1.count, p.2.end) at c.in_ok-seconds.ensures.number in
    let t = table-stands _ _ _ (rw p.2.end at c.in_ok-seconds.ensures.part) z in
    let m = table-stands _ _ _ (rw t.1 at c.in_ok-metres.ensures.part) (rw (p.1.count, t.1) at c.in_ok-metres.ensures.number) in
    (m.1, omega arith)

pub returns-in_err-steps-clause-number : goal.returns-in_err-steps-clause-number
returns-in_err-steps-clause-number c =
    let p = c.requires.stands in
    let z = rw (p.1.count, p.2.end) at c.in_ok-seconds.ensures.number in
    let t = table-stands _ _ _ (rw p.2.end at c.in_ok-seconds.ensures.part) z in
    handed _ _ c.from_residual-in_err-steps.ensures.1 (c.in_err-steps.ensures.number ∙ past-metres _ z (rw (p.1.count, t.1) at c.in_ok-metres.ensures.number))

pub returns-clause-number : goal.returns-clause-number
returns-clause-number c =
    let p = c.requires.stands in
    let z = rw (p.1.count, p.2.end) at c.in_ok-seconds.ensures.number in
    let t = table-stands _ _ _ (rw p.2.end at c.in_ok-seconds.ensures.part) z in
    c.in_ok-steps.ensures.number ∙ past-metres _ z (rw (p.1.count, t.1) at c.in_ok-metres.ensures.number)

pub returns-clause-layout : goal.returns-clause-layout
returns-clause-layout c =
    let p = c.requires.stands in
    let z = rw (p.1.count, p.2.end) at c.in_ok-seconds.ensures.number in
    let t = table-stands _ _ _ (rw p.2.end at c.in_ok-seconds.ensures.part) z in
    let m = table-stands _ _ _ (rw t.1 at c.in_ok-metres.ensures.part) (rw (p.1.count, t.1) at c.in_ok-metres.ensures.number) in
    let k = c.in_ok-steps.ensures.part in
    λ i. record {
      vans = p.0.count i / size.van;
      nodes = p.1.count i;
      jobs = p.2.count i;
      steps = k.count i;
      van = p.0.from i;
      node = p.1.from i;
      job = p.2.from i;
      seconds = t.0 i;
      metres = m.0 i;
      step = k.from i;
    }
