use mathlib.Core.Path.{◌≡◌}
use Prim.Native.Nat.{◌+◌, ◌*◌, ◌≤◌}
use lib.ListN.{length}
use Rattle.laws.specs.Basic.{joined}
use Rattle.listing.specs.Put.{Put}
use Rattle.dock.proofs.RouteLines.{row_line}
use Rattle.dock.proofs.lines.put_routes.Given as goal

abbrev pub invariant-loop-j : goal.invariant-loop-j
invariant-loop-j l =
    (l.next ≤ l.used + 1350 * l.j) × (length l.out ≡ length l.initial.out) × Put l.initial.out l.used (joined l.j (row_line l.routes l.figures)) l.next l.out
