-- What a day sheet is. Section: where each section stands, and what reading them finds. Place: what reading a sheet hands on, and what is known of an
-- accepted one.
pub mod Section
pub mod Place
