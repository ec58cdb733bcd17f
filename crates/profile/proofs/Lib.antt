-- ShutLaws: the look along a route, and what it leaves of the places of a node.
pub mod ShutLaws
