-- GapLaws: a loop over the places of a word, and what window and metres leave of it.
pub mod GapLaws
