use mathlib.Core.Path.{◌≡◌}
use mathlib.Core.Bool.{true}
use Rattle.laws.specs.Basic.{all_below}
use Rattle.board.specs.Route.{word_of}
use Rattle.board.specs.Form.{stop_ok}
use Rattle.board.proofs.form.seen_of.Given as goal

abbrev pub invariant-loop-i : goal.invariant-loop-i
invariant-loop-i l = (l.seen ≡ word_of l.i l.route) × (all_below l.i (stop_ok l.n l.stops l.route) ≡ true)
