-- Basic: the few functions on lists and numbers that the definitions of all crates are made of.
pub mod Basic
