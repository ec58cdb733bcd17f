use mathlib.Core.List.{List}
use Prim.Native.Nat.{ℕ, ◌^◌, ◌<◌}
use Rattle.fleet.specs.Rows.{fleet_with}
use Rattle.fleet.proofs.ServedLaws.{Unserved}
use Rattle.fleet.proofs.wards.served.Given as goal

abbrev pub invariant-loop-j : goal.invariant-loop-j
invariant-loop-j l = (l.left < 2 ^ 64) × ((levels : List (List ℕ)) → Unserved (fleet_with l.routes l.sets levels l.figures) l.j l.left)
