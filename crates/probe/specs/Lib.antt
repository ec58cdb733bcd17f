-- Told: what the line of a case tells.
pub mod Told
