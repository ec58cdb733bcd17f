-- RouteLaws: nodes put in and taken out. TestLaws: the form's tests on words. FormLaws: what a state in form knows, and what makes one.
-- Keep: each change keeps the form. Inverse: undoing inverts each. FreshForm: fresh is in form. PlaceLaws: what each change opens and closes.
-- EndLaws: nothing stands past the nodes. Told: a state by value is held.
pub mod RouteLaws
pub mod TestLaws
pub mod FormLaws
pub mod Keep
pub mod Inverse
pub mod FreshForm
pub mod PlaceLaws
pub mod EndLaws
pub mod Told
