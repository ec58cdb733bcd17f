-- Round: a round of settling from arrays. Settles: what settling gives.
pub mod Round
pub mod Settles
