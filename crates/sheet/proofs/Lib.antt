-- PlaceLaws: all that is known of an accepted sheet, and one section read after another.
pub mod PlaceLaws
