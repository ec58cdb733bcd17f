use mathlib.Core.Path.{sym, ◌∙◌}
use Rattle.bits.proofs.Members.{false-true}
use Rattle.fleet.proofs.FormLaws.{fits-form}
use Rattle.fleet.proofs.WardLaws.{adds-any, form-nodes}
use Rattle.fleet.proofs.form.join_van.Goals as goal

pub with_van-requires : goal.with_van-requires
with_van-requires c =
    let passed = sym c.van_ok.ensures ∙ c.if-not-van_ok.false in
    (c.requires.0, form-nodes c.args.n _ c.requires.1 (record { route = c.requires.2; sets = c.requires.3 }) (fits-form c.args.n _ _ _ passed))

pub returns : goal.returns
returns c =
    let a = c.args in
    let passed = sym c.van_ok.ensures ∙ c.if-not-van_ok.false in
    record {
      misfit = λ t. absurd (false-true (sym t ∙ passed));
      only = λ t u. absurd (false-true (sym c.if-only.false ∙ u));
      added = λ t u. adds-any a.n a.wards a.route.now a.f.stops a.sets.now a.f.marks a.f.must c.with_van.result c.with_van.ensures;
    }
