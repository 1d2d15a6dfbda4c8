-- Lemmas on lists of entries.
mod Counted
mod Entries
mod Whole
mod Structures
mod Told
mod Grown
pub mod Carrying
pub mod Passing
pub mod Following
mod Written
pub mod Anywhere
mod Turns
mod Lengths
