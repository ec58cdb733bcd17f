use Rattle.std.proofs.Common.{◌≡◌, ◌∙◌, ◌%◌, refl, sym, arith, ap, Bool, List, ℕ, length}
use borrow.Author.Tests.{eq-eqb, ne_eqb}
use Rattle.laws.specs.Basic.{or_else, unless}
use Rattle.rules.specs.Numbers.{refusal}
use Rattle.rules.proofs.Refusals.{handed, handed_on, gone_on}
use Rattle.sheet.specs.Section.{limits_refusal, nodes_refusal, jobs_refusal, later_refusal, read_refusal}
use Rattle.std.specs.Prelude.{Result, Err}
use Rattle.std.specs.Result.{IsErrAnd}
use Rattle.std.proofs.lemmas.Result.{err_from_is_err_and}
use Rattle.rules.specs.Refused.{number_in}
use Rattle.rules.specs.declared.Refusal.{Refusal}
use Rattle.rules.specs.declared.Refusal.TheVariants.{Short}
use Rattle.sheet.specs.Place.{found, read_in}
use Rattle.sheet.specs.declared.Layout.{Layout}
use Rattle.sheet.proofs.PlaceLaws.{limits-zero, read-laid, read-found}
use Rattle.sheet.proofs.sections.Goals as goal

-- what is left to ask once the length is fine
left : (s : List ℕ) → length s % 4 ≡ 0 → or_else (limits_refusal s) (or_else (nodes_refusal s) (or_else (jobs_refusal s) (later_refusal s))) ≡ read_refusal s
unfolding read_refusal
left s e = gone_on _ (ap (λ (b : Bool). unless b refusal.SHORT) (sym (eq-eqb _ _ e))) refl

pub returns-then-s-ne0-clause-number : goal.returns-then-s-ne0-clause-number
unfolding read_refusal or_else
returns-then-s-ne0-clause-number c = simp (ne_eqb _ _ c.if-s-ne0.true)

pub returns-in_err-vans-clause-number : goal.returns-in_err-vans-clause-number
returns-in_err-vans-clause-number c = handed _ _ c.from_residual.ensures.1 (handed_on _ _ c.in_err-vans.ensures.number ∙ left _ c.if-s-ne0.false)

pub nodes-requires : goal.nodes-requires
nodes-requires c =
    let v = c.in_ok-vans.ensures.part in
    let h = limits-zero _ (sym c.in_ok-vans.ensures.number) in
    omega arith

pub returns-in_err-nodes-clause-number : goal.returns-in_err-nodes-clause-number
returns-in_err-nodes-clause-number c =
    handed _ _ c.from_residual-in_err-nodes.ensures.1 (gone_on _ c.in_ok-vans.ensures.number (handed_on _ _ c.in_err-nodes.ensures.number) ∙ left _ c.if-s-ne0.false)

pub returns-clause-number : goal.returns-clause-number
returns-clause-number c =
    gone_on _ c.in_ok-vans.ensures.number (gone_on _ c.in_ok-nodes.ensures.number c.from_jobs.ensures.number) ∙ left _ c.if-s-ne0.false

pub returns-clause-layout : goal.returns-clause-layout
returns-clause-layout c =
    read-laid c.args.s.now c.from_jobs.result
    (gone_on _ c.in_ok-vans.ensures.number (gone_on _ c.in_ok-nodes.ensures.number c.from_jobs.ensures.number) ∙ left _ c.if-s-ne0.false) c.from_jobs.ensures.layout

-- ---- the whole of it

-- a refusal handed on
told : (s : List ℕ) (r : Result Layout Refusal) (e : Refusal) → IsErrAnd r (λ y. y ≡ e) → number_in r ≡ read_refusal s → read_in r ≡ found read_refusal s
told s r e h n = let p = err_from_is_err_and r h in read-found s r n (rw p.1 tt)

pub returns-then-s-ne0-clause-found : goal.returns-then-s-ne0-clause-found
returns-then-s-ne0-clause-found c = read-found c.args.s.now (Err Short) (returns-then-s-ne0-clause-number c) tt

pub returns-in_err-vans-clause-found : goal.returns-in_err-vans-clause-found
returns-in_err-vans-clause-found c = told _ _ _ c.from_residual.ensures.1 (returns-in_err-vans-clause-number c)

pub returns-in_err-nodes-clause-found : goal.returns-in_err-nodes-clause-found
returns-in_err-nodes-clause-found c = told _ _ _ c.from_residual-in_err-nodes.ensures.1 (returns-in_err-nodes-clause-number c)

pub returns-clause-found : goal.returns-clause-found
returns-clause-found c = read-found c.args.s.now c.from_jobs.result (returns-clause-number c) c.from_jobs.ensures.layout
