-- Shut: the legs of a route that are shut to a clean node, and to a soiled one.
pub mod Shut
