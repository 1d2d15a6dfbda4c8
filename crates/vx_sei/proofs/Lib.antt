-- Lemmas of this crate.
pub mod Messages
