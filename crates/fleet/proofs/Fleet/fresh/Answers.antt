use native.Mathlib.Omega.{arith}
use mathlib.Core.Path.{◌≡◌, ap, ◌∙◌}
use mathlib.Core.Bool.{cond}
use Prim.Native.Nat.{ℕ}
use lib.Dec.{ltb}
use Rattle.laws.proofs.Turned.{turned-all}
use Rattle.day.specs.Tell.{admitted}
use Rattle.board.specs.Fresh.{no_state, fresh_state}
use Rattle.fleet.specs.Fleet.{fleet_of, fresh_fleet}
use Rattle.fleet.proofs.FleetLaws.{fleet_made}
use Rattle.fleet.proofs.Fleet.fresh.Goals as goal

pub returns : goal.returns
unfolding fresh_fleet
returns c =
    let a = c.args in
    let e : c.loop-j.j ≡ a.at.vans = omega arith in
    ap fleet_made (turned-all c.loop-j.invariant)
    ∙ ap (λ (i : ℕ). fleet_of (λ k. cond (ltb k i) (fresh_state a.at.nodes (admitted a.sheet.now k)) no_state)) e
