use mathlib.Core.Path.{refl}
use Rattle.telling.proofs.sums_now.Goals as goal

pub returns : goal.returns
returns c = λ levels. rw (c.sum_up-sums.ensures, c.served-all.ensures levels) refl
