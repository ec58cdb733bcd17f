-- Digits: a word is its digits. Members: the laws of sets by their members. Number: how many members.
-- Masks: what the machine's operations on words do to the sets.
pub mod Digits
pub mod Members
pub mod Number
pub mod Masks
