-- Sets: the words of a state, as the rules see them. Ready: what settling and the verdict ask of their caller.
-- For contracts: Times (a step along the route), Spots (where each node stands), Route (a route in an array), Loads (H at its largest),
-- Nodes (the jobs by node).
pub mod Sets
pub mod Ready
pub mod Times
pub mod Spots
pub mod Route
pub mod Loads
pub mod Nodes
