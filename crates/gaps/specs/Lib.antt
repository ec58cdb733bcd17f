-- Gaps: the places of a node that window and metres leave.
pub mod Gaps
