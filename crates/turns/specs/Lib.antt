-- Together: what a fleet's step gives, van by van. Turn: one van's turn, and what it asks of its caller.
pub mod Together
pub mod Turn
