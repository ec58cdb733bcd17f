-- Word: the words of a sheet, and what they must be. Quarters: a stretch in four quarters.
pub mod Word
pub mod Quarters
