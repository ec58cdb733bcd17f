-- Face: what each of the five entry points answers, and what their contracts allow. Promises: the three demands, as statements about those answers.
-- For contracts: Asked (a fleet taken into rows).
pub mod Face
pub mod Promises
pub mod Asked
