-- Paper: the table P1 to P12, and what 02 adds to it.
pub mod Paper
