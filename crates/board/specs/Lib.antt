-- Route: nodes put in and taken out of an array. Board: a state and what is read from it. Fresh: the state that opening gives. Form: when a state is
-- in form. Change: a set put, a node placed, a node marked, one marked "must go somewhere"; each undone. Held: the sizes of arrays and words, and what a state in form knows.
-- For contracts: Tests (the form's tests on words).
pub mod Route
pub mod Board
pub mod Fresh
pub mod Form
pub mod Change
pub mod Held
pub mod Tests
