use mathlib.Core.List.{List}
use Prim.Native.Nat.{ℕ}
use Rattle.fleet.specs.Rows.{fleet_with}
use Rattle.fleet.specs.Wards.{HasWards}
use Rattle.fleet.proofs.wards.gather.Given as goal

abbrev pub invariant-loop-j : goal.invariant-loop-j
invariant-loop-j l = (levels : List (List ℕ)) → HasWards l.n l.j (fleet_with l.routes l.sets levels l.figures) l.all
