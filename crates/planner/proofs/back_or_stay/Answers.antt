use mathlib.Core.Path.{ap}
use Rattle.rules.specs.Refused.{number_of}
use Rattle.planner.proofs.TakenLaws.{back-leaves}
use Rattle.planner.proofs.back_or_stay.Goals as goal

pub returns-in-Err-Misfit : goal.returns-in-Err-Misfit
returns-in-Err-Misfit c = (back-leaves _ _ _ _ _ _ c.in-Err-Misfit.ensures (ap number_of c.in-Err-Misfit.field-0-is), c.requires.figured)
