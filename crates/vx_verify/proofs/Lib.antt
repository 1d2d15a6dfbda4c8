-- Lemmas of this crate.
pub mod Searching
pub mod Placing
pub mod Differing
pub mod Verdicts
pub mod OneMismatch
