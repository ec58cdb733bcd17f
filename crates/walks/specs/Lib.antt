-- Walks: a word of places against a test of each leg, and the walks that make such tests.
pub mod Walks
