-- What a sheet says. Tell: its jobs, its tables, the day and the vans of the rules. Refuse: two jobs that are one too many for a node, loads that no van
-- can carry, what a call and what opening checks. Section: the section reader. Example: the sheet of document 01.
-- For contracts: Seen (one pass over the jobs).
pub mod Tell
pub mod Refuse
pub mod Section
pub mod Example
pub mod Seen
