use mathlib.Core.Path.{◌≡◌}
use mathlib.Core.List.{[]}
use Prim.Native.Nat.{◌≤◌, ◌*◌}
use lib.ListN.{get_or}
use Rattle.laws.specs.Basic.{sum_below}
use Rattle.board.specs.Board.{places_of}
use Rattle.fleet.proofs.wards.places.Given as goal

abbrev pub invariant-loop-j : goal.invariant-loop-j
invariant-loop-j l = (l.all ≤ 4096 * l.j) × (l.all ≡ sum_below l.j (λ i. places_of (get_or l.sets i []) l.n))
