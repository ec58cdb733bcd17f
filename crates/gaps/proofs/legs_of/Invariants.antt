use mathlib.Core.Path.{◌≡◌}
use Prim.Native.Nat.{◌+◌}
use lib.ListN.{get_or, take}
use Rattle.laws.specs.Basic.{Filled}
use Rattle.rules.specs.Along.{start_at}
use Rattle.rules.specs.Time.{driven}
use Rattle.day.specs.Tell.{day_of}
use Rattle.gaps.specs.Gaps.{left_at, most_at}
use Rattle.gaps.proofs.legs_of.Given as goal

abbrev pub invariant-loop-i : goal.invariant-loop-i
invariant-loop-i l =
    (l.p ≡ get_or l.route l.i 0) × (l.t ≡ start_at (day_of l.s) l.route l.i) × (l.total ≡ driven (day_of l.s) (take (l.i + 1) l.route))
    × Filled 64 (left_at (day_of l.s) l.route) 0 l.i l.leave × Filled 64 (most_at (day_of l.s) l.limit l.route) 0 l.i l.most
