use mathlib.Core.Path.{◌≡◌, refl, sym, ◌∙◌}
use native.Mathlib.Omega.{arith}
use Rattle.bits.proofs.Members.{false-true}
use Rattle.fleet.specs.Rows.{fleet_with, RowsOf}
use Rattle.fleet.proofs.ServedLaws.{serving}
use Rattle.listing.proofs.TextLaws.{step-takes}
use Rattle.rules.specs.Refused.{number_in}
use Rattle.trail.specs.Steps.{rounds_of}
use Rattle.telling.specs.Told.{ToldAll, sums_of, KeptAll}
use Rattle.telling.proofs.VanLaws.{rows_none}
use Rattle.dock.proofs.Reach.{begun, readied, goes_on, line-is, summing, told-on, kept_on, still}
use Rattle.dock.proofs.LineLaws.{come-none, come-next, lines_none, lines_next}
use Rattle.dock.proofs.lines.put_lines.Goals as goal
use Rattle.dock.proofs.lines.put_lines.Goals.{then-stale, else-stale}

pub tell_vans-requires : goal.tell_vans-requires
tell_vans-requires c =
    let a = c.args in
    let s = c.requires.sheet_value in
    let r = readied s.0 s.1 a.routes.now a.sets.now a.levels.now a.figures.now c.requires.rows.3 (begun a.trail.now c.requires.figures_value) in
    record { ready_all = (r, rows_none 3, s.3); rows_of = (rows_none 4, λ e. absurd (false-true (sym e))) }

pub sums_now-sums-requires : goal.sums_now-sums-requires
sums_now-sums-requires c =
    let a = c.args in
    let s = c.requires.sheet_value in
    let five = c.requires.rows.3 in
    let first = c.tell_vans.ensures.by_index a.levels.now (λ j h n same. absurd (false-true (sym n))) in
    let r = begun a.trail.now c.requires.figures_value in
    let serves = serving (readied s.0 s.1 a.routes.now a.sets.now a.levels.now a.figures.now five r) in
    let t = summing s.0 s.1 a.routes.now a.sets.now a.levels.now a.figures.now five r first in
    record { v_le_most_vans = t; figured = (serves.0.1, serves.1) }

pub loop-i-init : goal.loop-i-init
loop-i-init c =
    let a = c.args in
    let e = c.requires.figures_value in
    record {
      room = omega arith;
      out_len = refl;
      trail_len = refl;
      put = lines_none _ _ _;
      come = come-none _ _ e;
      reached = begun a.trail.now e;
      told_all = c.tell_vans.ensures.by_index a.levels.now (λ j h n same. absurd (false-true (sym n)));
      told_rows = c.tell_vans.ensures.rows_of_2;
      rows = c.requires.rows;
      summed = c.sums_now-sums.ensures a.levels.now;
      kept = c.tell_vans.ensures.kept_all;
    }

-- ---- the rows as the step leaves them

pub tell_vans-requires-then-stale : goal.tell_vans-requires-then-stale
tell_vans-requires-then-stale c =
    let s = c.requires.sheet_value in
    let v = c.loop-i in
    let n = c.step_at-answer.new in
    let e = c.step_at-answer.ensures.i_value in
    let on = goes_on s.0 v.invariant.reached _ _ _ e in
    let ready = readied s.0 s.1 n.routes n.sets n.levels n.figures c.step_at-answer.ensures.rows_2.3 on in
    let inv = v.invariant in
    record {
      ready_all = (ready, inv.told_rows, s.3);
      rows_of = (
        inv.kept.rows,
        λ z. kept_on s.0 s.1 v.routes v.sets v.levels v.figures inv.rows.3 inv.reached _ _ _
            n.routes n.sets n.levels n.figures e inv.told_all inv.kept,
      );
    }

pub sums_now-sums-requires-then-stale : goal.sums_now-sums-requires-then-stale
sums_now-sums-requires-then-stale c =
    let s = c.requires.sheet_value in
    let v = c.loop-i in
    let n = c.step_at-answer.new in
    let e = c.step_at-answer.ensures.i_value in
    let on = goes_on s.0 v.invariant.reached _ _ _ e in
    let ready = readied s.0 s.1 n.routes n.sets n.levels n.figures c.step_at-answer.ensures.rows_2.3 on in
    let same = told-on s.0 s.1 v.routes v.sets v.levels v.figures v.invariant.rows.3 v.invariant.reached _ _ _ n.routes n.sets n.levels n.figures e v.invariant.told_all in
    let told = c.tell_vans-then-stale.ensures.by_index n.levels (λ j h e. same j h) in
    let serves = serving ready in
    let t = summing s.0 s.1 n.routes n.sets n.levels n.figures c.step_at-answer.ensures.rows_2.3 on told in
    record { v_le_most_vans = t; figured = (serves.0.1, serves.1) }

pub loop-i-preserved : goal.loop-i-preserved
loop-i-preserved c =
    let s = c.requires.sheet_value in
    let v = c.loop-i in
    let n = c.step_at-answer.new in
    let e = c.step_at-answer.ensures.i_value in
    let on = goes_on s.0 v.invariant.reached _ _ _ e in
    let same = told-on s.0 s.1 v.routes v.sets v.levels v.figures v.invariant.rows.3 v.invariant.reached _ _ _ n.routes n.sets n.levels n.figures e v.invariant.told_all in
    let inv = v.invariant in
    let f = fleet_with n.routes n.sets n.levels n.figures in
    let h : ToldAll c.args.sheet.now f c.if-stale.told × (c.if-stale.sums ≡ sums_of c.args.at.vans c.if-stale.told f)
    × KeptAll c.args.sheet.now c.args.jobs.now n.routes n.figures c.if-stale.ways × RowsOf 3 c.if-stale.told =
    elim c.if-stale.branch [
      | then-stale w ↦ rw (w.told-is, w.sums-is, w.ways-is) (
        w.tell_vans-then-stale.ensures.by_index n.levels (λ j h e. same j h),
        w.sums_now-sums-then-stale.ensures n.levels,
        w.tell_vans-then-stale.ensures.kept_all,
        w.tell_vans-then-stale.ensures.rows_of_2,
      )
      | else-stale w ↦ let h = still s.0 s.1 v.routes v.sets v.levels v.figures inv.rows.3 inv.reached _ _ _ n.routes n.sets n.levels n.figures e inv.told_all
          (sym c.stale.ensures ∙ w.if-stale.false) inv.summed inv.kept in
          rw (w.told-is, w.sums-is, w.ways-is) (h.0, h.1, h.2, inv.told_rows)
    ] in
    let k = step-takes _ _ _ _ _ _ c.put_line-used.ensures in
    let line = line-is s.0 on h.0 v.i (number_in c.step_at-answer.result) (rounds_of c.step_at-answer.result) s.1.vans h.1 in
    record {
      room = omega (arith, k.0, inv.room);
      out_len = k.1 ∙ inv.out_len;
      trail_len = omega (arith, inv.trail_len);
      put = lines_next _ _ _ inv.come e line inv.put c.put_line-used.ensures;
      come = come-next _ _ _ inv.come e;
      reached = on;
      told_all = h.0;
      told_rows = h.3;
      rows = c.step_at-answer.ensures.rows_2;
      summed = h.1;
      kept = h.2;
    }
