use mathlib.Core.Path.{◌≡◌}
use Prim.Native.Nat.{◌*◌, ◌≤◌}
use lib.ListN.{length}
use Rattle.fleet.specs.Rows.{fleet_with, RowsOf, Rows, Figured}
use Rattle.listing.specs.Put.{Put}
use Rattle.dock.specs.Listing.{come_to, lines_of, Reached}
use Rattle.telling.specs.Told.{ToldAll, sums_of, KeptAll}
use Rattle.dock.proofs.lines.put_lines.Given as goal

abbrev pub invariant-loop-i : goal.invariant-loop-i
invariant-loop-i l =
    record {
      room : l.used ≤ 200 * l.i;
      out_len : length l.out ≡ length l.initial.out;
      trail_len : length l.trail ≡ length l.initial.trail;
      put : Put l.initial.out 0 (lines_of l.sheet l.initial.trail l.i) l.used l.out;
      come : come_to l.sheet l.initial.trail l.i ≡ (fleet_with l.routes l.sets l.levels l.figures, l.trail);
      reached : Reached l.sheet (fleet_with l.routes l.sets l.levels l.figures) l.trail;
      told_all : ToldAll l.sheet (fleet_with l.routes l.sets l.levels l.figures) l.told;
      told_rows : RowsOf 3 l.told;
      rows : Rows l.routes × Rows l.sets × Rows l.levels × Figured l.figures;
      summed : l.sums ≡ sums_of l.at.vans l.told (fleet_with l.routes l.sets l.levels l.figures);
      kept : KeptAll l.sheet l.jobs l.routes l.figures l.ways;
    }
