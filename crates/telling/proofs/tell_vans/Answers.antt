use native.Mathlib.Omega.{arith}
use mathlib.Core.Path.{◌≡◌, refl, sym, ap, ◌∙◌}
use mathlib.Core.Bool.{cond}
use mathlib.Core.List.{List, [], ◌∷◌}
use Prim.Native.Nat.{ℕ, ◌<◌}
use lib.ListN.{get_or}
use Rattle.rules.specs.Numbers.{most_vans}
use Rattle.rules.specs.declared.Van.{Van}
use Rattle.rules.specs.Verdict.{alive}
use Rattle.sheet.specs.Section.{vans_of}
use Rattle.day.specs.Tell.{day_of}
use Rattle.board.specs.Board.{places_of, route_of, set_of, open_at}
use Rattle.stands.specs.Stands.{plan_of}
use Rattle.stands.proofs.Formed.{stands-formed}
use Rattle.fleet.specs.Rows.{figures_in, row_board}
use Rattle.laws.proofs.Turned.{turned_none, turned_more}
use Rattle.telling.proofs.VanLaws.{told-anew, told-left, told-rows, turned-kept, turned-ahead, all_told, as_before_lem, kept-ahead, kept-skip, kept_more}
use Rattle.telling.proofs.tell_vans.Lts.{then-every-f, else-every-f}
use Rattle.telling.proofs.tell_vans.Goals as goal

pub loop-j-init : goal.loop-j-init
loop-j-init c = record {
  told = turned_none _ _ _ _ _ c.requires.ready_all.1.eight (λ k h. refl);
  ways = record { rows = c.requires.rows_of.0; each = λ k l. absurd (omega (arith, l)); ahead = λ k l. refl };
}

pub tell-requires-clause-ready : goal.tell-requires-clause-ready
unfolding route_of open_at set_of
tell-requires-clause-ready c =
    let a = c.args in
    let p = c.requires.ready_all in
    let l : c.loop-j.j < vans_of a.sheet.now = omega (arith, p.0.laid.vans) in
    let few : c.loop-j.j < most_vans = omega (arith, p.0.laid.vans, p.0.laid.fine.vans-high) in
    let b = p.0.each c.loop-j.j l in
    let h = c.loop-j.invariant in
    rw c.figures_in-f.ensures (
      record {
        clear = p.0.clear;
        laid = p.0.laid;
        long = b.wide.route;
        sized = b.wide.sets;
        most = omega (arith, b.form.route.most, b.small);
        form = stands-formed (day_of a.sheet.now) (row_board a.routes.now a.sets.now a.figures.now c.loop-j.j) b.small b.wide (p.0.words c.loop-j.j l) b.form;
      },
      (told-rows a.sheet.now a.routes.now a.sets.now a.figures.now a.every a.told.now p.1 h.told).wide c.loop-j.j few,
      p.2,
      h.ways.rows.wide c.loop-j.j few,
    )

pub tell-requires-clause-kept : goal.tell-requires-clause-kept
tell-requires-clause-kept c =
    let h = c.loop-j.invariant.ways in
    let l : c.loop-j.j < vans_of c.args.sheet.now = omega (arith, c.requires.ready_all.0.laid.vans) in
    rw (c.figures_in-f.ensures, c.van-van.ensures.0)
    (λ e q. kept-ahead h ((c.requires.rows_of.1 e).stopped _ l (ap (λ (w : List ℕ). get_or w 0 0) (sym (h.ahead c.loop-j.j (omega arith))) ∙ q)))

pub loop-j-preserved : goal.loop-j-preserved
loop-j-preserved c =
    let a = c.args in
    let v = c.loop-j.invariant in
    let d = c.requires.ready_all.0.laid in
    let few : c.loop-j.j < most_vans = omega (arith, d.vans, d.fine.vans-high) in
    let e : get_or c.loop-j.told c.loop-j.j [] ≡ get_or a.told.now c.loop-j.j [] = turned-ahead v.told few in
    let l : c.loop-j.j < vans_of a.sheet.now = omega (arith, d.vans) in
    elim c.if-every-f.branch [
      | then-every-f w ↦ record {
        told = rw w.told-is (turned_more _ v.told few
            (rw c.figures_in-f.ensures at (w.tell.ensures.by_index [])
            ∙ ap (λ (n : Van). places_of (get_or a.sets.now c.loop-j.j []) 64 ∷ (figures_in (get_or a.figures.now c.loop-j.j [])).records
            ∷ cond (alive n (day_of a.sheet.now) (plan_of (row_board a.routes.now a.sets.now a.figures.now c.loop-j.j))) 1 0 ∷ []) w.van-van.ensures.0
            ∙ told-anew a.sheet.now a.routes.now a.sets.now a.figures.now a.every a.told.now c.loop-j.j (rw (c.figures_in-f.ensures, e) at w.if-every-f.true)));
        ways = rw w.ways-is (kept_more _ v.ways few (rw (c.figures_in-f.ensures, w.van-van.ensures.0) at w.tell.ensures.kept_2));
      }
      | else-every-f w ↦ let q = rw (c.figures_in-f.ensures, e) at w.if-every-f.false in let b = as_before_lem a.every _ _ q in record {
        told = rw w.told-is (turned-kept v.told few (told-left a.sheet.now a.routes.now a.sets.now a.figures.now a.every a.told.now c.loop-j.j q));
        ways = rw w.ways-is (kept-skip v.ways ((c.requires.rows_of.1 b.0).recorded c.loop-j.j l b.1));
      }
    ]

pub returns-clause-rows_of_2 : goal.returns-clause-rows_of_2
returns-clause-rows_of_2 c =
    let a = c.args in
    told-rows a.sheet.now a.routes.now a.sets.now a.figures.now a.every a.told.now c.requires.ready_all.1 c.loop-j.invariant.told

pub returns-clause-kept_all : goal.returns-clause-kept_all
returns-clause-kept_all c =
    let w = c.loop-j.invariant.ways in
    record { rows = w.rows; each = λ j l. w.each j (omega (arith, c.requires.ready_all.0.laid.vans, l)) }

pub returns-clause-by_index : goal.returns-clause-by_index
returns-clause-by_index c =
    let a = c.args in
    let d = c.requires.ready_all.0.laid in
    λ levels same. all_told a.sheet.now a.routes.now a.sets.now a.figures.now a.every a.told.now levels
    (omega (arith, d.vans)) (omega (arith, d.vans, d.fine.vans-high)) c.loop-j.invariant.told same
