-- Trail: records, and the names of their kinds. Undo: what fits, and what undoing gives; Undoing: a board meanwhile.
pub mod Trail
pub mod Undo
pub mod Undoing
