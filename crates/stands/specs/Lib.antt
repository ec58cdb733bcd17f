-- Plan: the plan that a board stands for.
pub mod Stands
