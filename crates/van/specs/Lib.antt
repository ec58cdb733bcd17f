-- Act: the step of each kind on a van's state. Known: what a step asks of its caller.
pub mod Act
pub mod Known
