-- Trial: what a trial gives, by what its steps gave.
pub mod Trial
