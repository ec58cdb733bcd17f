-- Listing: the line of a step, and the whole listing of a sheet.
pub mod Listing
