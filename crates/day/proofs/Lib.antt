-- RefuseLaws: what a check hands on. SeenLaws: one pass. Fit: the jobs of an accepted sheet. Range: every number in its range.
-- SectionLaws: the section reader. Asked: what the refusals give the theorems. Computed: the sheet of document 01, its refusals and what it says.
pub mod RefuseLaws
pub mod SeenLaws
pub mod Fit
pub mod Range
pub mod SectionLaws
pub mod Asked
pub mod Computed
