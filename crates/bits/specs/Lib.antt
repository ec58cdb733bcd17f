-- Places: a set of places in a word.
pub mod Places
pub mod Next
