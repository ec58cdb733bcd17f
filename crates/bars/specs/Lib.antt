-- Bars: why placing a ward in a van of a fleet is refused.
pub mod Bars
