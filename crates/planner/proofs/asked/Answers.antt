use mathlib.Core.Path.{sym, ◌∙◌}
use Rattle.planner.proofs.AskLaws.{ask-taken, ask-form}
use Rattle.planner.proofs.asked.Goals as goal

pub returns-then-form_ok : goal.returns-then-form_ok
returns-then-form_ok c = λ sheet z l. ask-taken sheet z _ (rw (l.nodes, l.vans) at (sym c.form_ok.ensures ∙ c.if-form_ok.true))

pub returns-else-form_ok : goal.returns-else-form_ok
returns-else-form_ok c = λ sheet z l. ask-form sheet z _ (rw (l.nodes, l.vans) at (sym c.form_ok.ensures ∙ c.if-form_ok.false))
