-- Told: what a line tells of one van, and of all; what is kept of their routes.
pub mod Told
