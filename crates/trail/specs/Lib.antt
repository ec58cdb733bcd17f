-- Refusals: why each step is refused. Steps: what each step gives: answer, rounds, state and trail. For the theorems: Run (accepted steps one after
-- another).
pub mod Refusals
pub mod Steps
pub mod Run
