use Rattle.std.proofs.lemmas.Bool.Decides.{nat_tests}
use native.Mathlib.Omega.{arith}
use mathlib.Core.Path.{◌≡◌, refl, sym, ap, ◌∙◌}
use Rattle.laws.proofs.Peak.{peak-none, peak-next}
use Rattle.rules.specs.Load.{load_of}
use Rattle.rules.specs.Profile.{clean_at, soiled_at}
use Rattle.day.specs.Tell.{job_in}
use Rattle.day.proofs.SeenLaws.{pass-none, pass-goes, pass-done, met-any}
use Rattle.day.proofs.Fit.{placed-read}
use Rattle.day.proofs.jobs.look_over.Goals as goal

pub loop-i-init : goal.loop-i-init
loop-i-init c = (pass-none _ refl refl refl refl, sym (peak-none _))

pub see-seen-requires : goal.see-seen-requires
see-seen-requires c = placed-read c.requires _ c.loop-i-test.true c.job-one.ensures

pub loop-i-preserved : goal.loop-i-preserved
loop-i-preserved c =
    let v = c.loop-i in
    let g = job_in c.args.s.now in
    let w : c.load.result ≡ load_of (g v.i) = c.load.ensures ∙ ap load_of c.job-one.ensures in
    let p = peak-next (λ k. load_of (g k)) v.i in
    let h = placed-read c.requires _ c.loop-i-test.true c.job-one.ensures in
    (pass-goes g _ v.invariant.0 c.job-one.ensures h c.see-seen.ensures, grind (arith, nat_tests))

pub returns : goal.returns
returns c =
    let v = c.loop-i in
    let e : v.i ≡ c.args.l.jobs = omega arith in
    let p = v.invariant.0.seen in
    record {
      apart = pass-done _ _ _ c.loop-i.auto.i-end c.loop-i-test.false v.invariant.0;
      heaviest = rw e at v.invariant.1;
      clean = met-any clean_at _ _ _ _ e p.clean;
      soiled = met-any soiled_at _ _ _ _ e p.soiled;
    }
