-- What the proofs lean on, with no planner in it.
-- Logic: tests put together and taken apart. Lists: membership, all, any, subsequences. Choice: a value by a test, the first refusal.
-- Below: a test of every number below one, AnyLaws: of some. Sum: a sum over them, Peak: the greatest of them. Table: a list by its entries. Turned: a list of which the first entries are new. Sweep: a list rewritten place by place. Once: lists with every entry once.
-- Or: the or of many numbers. Parts: a list cut into equal parts.
pub mod Logic
pub mod Lists
pub mod Choice
pub mod Below
pub mod AnyLaws
pub mod Table
pub mod Turned
pub mod Sweep
pub mod Once
pub mod Sum
pub mod Peak
pub mod Or
pub mod Parts
pub mod Ranges
