-- FleetLaws: a fleet by its states, the parts of a lent trail, what is no van.
-- RowLaws: a fleet in rows.
-- FigureLaws: a van's other numbers in a row. TestLaws: the form's tests as the code makes them. FormLaws: the form, fact by fact, and what makes it. WardLaws: what the vans have of the wards.
-- JoinLaws: the form and the wards, van by van.
-- ServedLaws: the wards that must go somewhere, van by van.
-- PlanLaws: a fleet as the rules see it. Told: a fleet by value is held.
pub mod FleetLaws
pub mod FigureLaws
pub mod RowLaws
pub mod TestLaws
pub mod FormLaws
pub mod WardLaws
pub mod JoinLaws
pub mod ServedLaws
pub mod PlanLaws
pub mod Told
