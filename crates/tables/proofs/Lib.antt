-- TableLaws: the rows of a table in the sheet. SquareLaws: a table is read into a square. RuleLaws: what is asked of its rows is the triangle rule.
-- Signed: what is left of a way, as a signed number.
pub mod TableLaws
pub mod SquareLaws
pub mod RuleLaws
pub mod Signed
