use mathlib.Core.Path.{◌≡◌, ap, ◌∙◌}
use Prim.Native.Nat.{ℕ}
use native.Mathlib.Omega.{arith}
use Rattle.laws.specs.Basic.{any, tab}
use Rattle.bits.proofs.Members.{has-none}
use Rattle.day.specs.Tell.{job_in}
use Rattle.along.proofs.ReadyLaws.{jobs-are}
use Rattle.day.proofs.Fit.{placed-read}
use Rattle.verdict.specs.Verdict.{joins}
use Rattle.verdict.proofs.Pairing.{any-first, any-more, any-tab}
use Rattle.verdict.proofs.partners.Goals as goal

pub loop-j-init : goal.loop-j-init
loop-j-init c = λ y. has-none y ∙ any-first _

pub with_partner-word-requires : goal.with_partner-word-requires
with_partner-word-requires c = placed-read c.requires c.loop-j.j c.loop-j-test.true c.job-job.ensures

pub loop-j-preserved : goal.loop-j-preserved
loop-j-preserved c = λ y.
    let l = c.loop-j in
    let a = c.args in
    any-more l.j (λ k. joins a.x y (job_in a.s.now k)) (l.invariant y) (ap (joins a.x y) c.job-job.ensures) (c.with_partner-word.ensures y)

pub returns : goal.returns
returns c = λ y.
    let l = c.loop-j in
    let a = c.args in
    let e : l.j ≡ a.at.jobs = omega arith in
    l.invariant y ∙ any-tab (joins a.x y) l.j (job_in a.s.now) ∙ ap (λ (k : ℕ). any (joins a.x y) (tab k (job_in a.s.now))) (e ∙ jobs-are c.requires)
