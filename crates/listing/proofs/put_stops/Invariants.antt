use Prim.Native.Nat.{◌+◌, ◌*◌, ◌≤◌}
use mathlib.Core.Path.{◌≡◌}
use lib.ListN.{length, take}
use Rattle.listing.specs.Text.{stops_text}
use Rattle.listing.specs.Put.{Put}
use Rattle.listing.proofs.put_stops.Given as goal

abbrev pub invariant-loop-i : goal.invariant-loop-i
invariant-loop-i l =
    (l.at + 21 * l.stops ≤ length l.out) × (l.next ≤ l.at + 21 * l.i) × (length l.out ≡ length l.initial.out) × Put l.initial.out l.at (stops_text (take l.i l.route)) l.next l.out
