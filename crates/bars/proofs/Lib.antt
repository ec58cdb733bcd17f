-- BarLaws: the same asked of a fleet in rows.
pub mod BarLaws
