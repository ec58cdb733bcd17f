use Rattle.std.proofs.Common.{[], sym, ◌∙◌, arith}
use Rattle.records.specs.Trail.{room_of}
use Rattle.trail.proofs.StepLaws.{inner_below, obligeable}
use Rattle.trail.proofs.steps.oblige.Goals as goal

pub first_word-requires : goal.first_word-requires
first_word-requires c =
    let h = obligeable _ _ _ _ _ (sym (c.in_ok-oblige_refusal.ensures [] [])) in
    (omega arith, inner_below h.0 c.requires)

pub push-requires : goal.push-requires
unfolding room_of
push-requires c =
    let h = obligeable _ _ _ _ _ (sym (c.in_ok-oblige_refusal.ensures [] [])) in
    h.1 (sym c.has.ensures ∙ c.if-has.false)

pub overflow_add-i : goal.overflow_add-i
unfolding room_of
overflow_add-i c =
    let h = obligeable _ _ _ _ _ (sym (c.in_ok-oblige_refusal.ensures [] [])) in
    omega (arith, h.1 (sym c.has.ensures ∙ c.if-has.false), c.well_formed)
