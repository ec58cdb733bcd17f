-- Formed: a board in form stands for a plan in form. Changed: each change of the board is the rules' step of its plan.
-- Fresh: the fresh board stands for the fresh plan.
pub mod Formed
pub mod Changed
pub mod Fresh
