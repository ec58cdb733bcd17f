use Rattle.std.proofs.Common.{[], arith}
use Rattle.std.proofs.lemmas.Grind.{common_steps}
use Rattle.records.specs.Trail.{room_of}
use Rattle.trail.proofs.StepLaws.{inner_below, requirable}
use Rattle.trail.proofs.steps.require.Goals as goal

pub first_word-requires : goal.first_word-requires
first_word-requires c = grind (arith, common_steps, inner_below, requirable, c.in_ok-require_refusal.ensures [])

pub push-requires : goal.push-requires
unfolding room_of
push-requires c = grind (arith, common_steps, requirable, c.in_ok-require_refusal.ensures [])

pub overflow_add-i : goal.overflow_add-i
unfolding room_of
overflow_add-i c = grind (arith, common_steps, requirable, c.in_ok-require_refusal.ensures [])
