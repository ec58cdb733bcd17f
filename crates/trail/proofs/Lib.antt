-- Laws: StepLaws, UndoWords. Small: what one record stands for, and undoing inverts it. Spells: a stretch of the trail undone.
-- Since: what holds since a level was opened. The theorems: StepBack (stepping back restores the state; every accepted step keeps the form),
-- Bound (from fresh at most n(n - 2) records, and one for each mark "must go somewhere"), Never (so with that room no step is refused for its room,
-- and none for a misfit), Still (no record, no change; as many stops, the same route), Must (which step touches the marks "must go somewhere").
-- Examples: small cases, computed.
pub mod StepLaws
pub mod Small
pub mod UndoWords
pub mod Spells
pub mod Since
pub mod StepBack
pub mod Bound
pub mod Never
pub mod Still
pub mod Must
pub mod Examples
