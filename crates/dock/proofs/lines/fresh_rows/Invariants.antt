use Prim.Native.Nat.{◌≤◌}
use Rattle.day.specs.Tell.{admitted}
use Rattle.dock.proofs.FreshRows.{Freshly}
use Rattle.dock.proofs.lines.fresh_rows.Given as goal

abbrev pub invariant-loop-j : goal.invariant-loop-j
invariant-loop-j l = (l.at.vans ≤ 8) × Freshly l.at.nodes (admitted l.sheet) l.j l.routes l.sets l.levels l.figures
