use mathlib.Core.Path.{sym, ap₂, ◌∙◌}
use mathlib.Core.Bool.{◌&&◌}
use Rattle.fleet.proofs.FormLaws.{in-form-split}
use Rattle.fleet.proofs.form.form_ok.Goals as goal

pub returns : goal.returns
returns c = ap₂ ◌&&◌ c.others_idle.ensures c.vans_ok.ensures ∙ sym (in-form-split _ _ _ c.requires.0)
