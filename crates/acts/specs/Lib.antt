-- Act: the step of each kind. Known: what a step asks of its caller. Moved: an accepted step, van by van.
pub mod Act
pub mod Known
pub mod Moved
