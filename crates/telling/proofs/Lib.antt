-- VanLaws: what a line tells of the vans, van by van, and what is kept of their routes.
pub mod VanLaws
