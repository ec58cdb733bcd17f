use mathlib.Core.Path.{sym, ◌∙◌}
use borrow.Author.Tests.{eq-eqb, ne_eqb}
use Rattle.fleet.proofs.TestLaws.{depth-fails, must-fails, form-decides}
use Rattle.fleet.proofs.form.van_ok.Goals as goal

pub returns-then-f-depth : goal.returns-then-f-depth
returns-then-f-depth c = sym (depth-fails _ _ _ _ (ne_eqb _ _ c.if-f-depth.true))

pub returns-then-not-first-f : goal.returns-then-not-first-f
returns-then-not-first-f c = sym (must-fails _ _ _ _ (c.if-not-first-f.true))

pub returns : goal.returns
returns c = c.in_form.ensures ∙ sym (form-decides _ _ _ _ (eq-eqb _ _ c.if-f-depth.false) (c.if-not-first-f.false))
