-- Lemmas of this crate.
pub mod Listing
pub mod Words
