-- KnownLaws: what a fleet in form gives its steps. ActLaws: the step of each kind. Moves: an accepted step, van by van. DoneLaws: what is done in
-- place is the step.
pub mod KnownLaws
pub mod ActLaws
pub mod Moves
pub mod DoneLaws
