use Rattle.std.proofs.Common.{◌∙◌, sym, arith, rules}
use native.Mathlib.Nat.{add-sub_cancel_left}
use Rattle.rules.proofs.Refusals.{refuses}
use Rattle.day.proofs.SectionLaws.{section-none, section-is, span_fits}
use Rattle.day.proofs.section.Goals as goal

pub returns-in-Err : goal.returns-in-Err
returns-in-Err c = section-none _ _ _ (λ z. refuses _ (c.in-Err.ensures.number ∙ z))

pub span_of-p-requires : goal.span_of-p-requires
span_of-p-requires c =
    let l = c.in-Ok.ensures.layout in
    let f = l.fine in
    (omega arith, omega arith, omega arith, omega arith)

pub overflow_mul-from : goal.overflow_mul-from
overflow_mul-from c = let f = span_fits _ c.in-Ok.ensures.layout c.span_of-p.ensures in omega arith

pub overflow_mul-end : goal.overflow_mul-end
overflow_mul-end c = let f = span_fits _ c.in-Ok.ensures.layout c.span_of-p.ensures in omega arith

pub overflow_add-end : goal.overflow_add-end
overflow_add-end c = let f = span_fits _ c.in-Ok.ensures.layout c.span_of-p.ensures in omega arith

pub slice_bounds-result-end : goal.slice_bounds-result-end
slice_bounds-result-end c = let f = span_fits _ c.in-Ok.ensures.layout c.span_of-p.ensures in search rules

pub returns-in-Ok : goal.returns-in-Ok
returns-in-Ok c = rw add-sub_cancel_left (section-is _ _ (sym c.in-Ok.ensures.number) c.in-Ok.ensures.layout c.span_of-p.ensures)
