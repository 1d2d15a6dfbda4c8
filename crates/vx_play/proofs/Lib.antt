-- Lemmas of this crate.
pub mod Searching
