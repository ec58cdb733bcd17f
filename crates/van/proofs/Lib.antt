-- Called: what a call that is not refused knows of a van. Plans: what an accepted step does to the plan that the state stands for. Leaves: a refused step
-- leaves state and trail. Moves: an accepted step is one that the trail's theorems speak of. Ready: what settling and the verdict ask.
pub mod Called
pub mod Plans
pub mod Ready
pub mod Leaves
pub mod Moves
