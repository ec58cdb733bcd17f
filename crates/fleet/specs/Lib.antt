-- Fleet: eight states and the parts of a lent trail. Form: when a fleet is in form. Sums: its plans, and its open places and records in all.
-- For contracts: Rows (a fleet in arrays), Wards (what the vans have of the wards).
pub mod Fleet
pub mod Form
pub mod Sums
pub mod Rows
pub mod Wards
