-- QuarterLaws: none of a stretch is above what its quarters give together.
pub mod QuarterLaws
