-- Lemmas of this crate.
pub mod CornerLists
pub mod Streams
pub mod Telling
pub mod Values
