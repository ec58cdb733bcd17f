-- WalkLaws: what a test leaves of a word. Riding: a walk leg by leg. Meeting: all legs at once, where each has room.
pub mod WalkLaws
pub mod Riding
pub mod Meeting
