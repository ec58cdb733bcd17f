-- Tried: what a trial of a place gives.
pub mod Tried
