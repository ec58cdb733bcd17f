-- The promises proved. All: every one of them. One: one outcome, and the jobs. Answers: a step refused and a step accepted, van by van.
-- FreshFleet: the fresh fleet. Kept: the form kept, and the sets of rounds that each step keeps. Courses: accepted steps one after another.
-- Admitted: no ward in a van that it does not admit. Never: 17, 19 and 20 never met. Worked: demand 3.
-- Below them, Backs: when a fleet steps back. Depths: the levels open after each step.
-- For the functions: AskLaws (asking a call), RowFacts (a fleet in form in rows), CallFacts (a call asked, and not refused), TakenLaws (a step refused and taken).
pub mod Backs
pub mod Depths
pub mod One
pub mod Answers
pub mod FreshFleet
pub mod Kept
pub mod Courses
pub mod Admitted
pub mod Never
pub mod Worked
pub mod All
pub mod AskLaws
pub mod RowFacts
pub mod CallFacts
pub mod TakenLaws
