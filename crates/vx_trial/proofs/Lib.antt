-- Lemmas of this crate.
pub mod Again
pub mod Counted
pub mod Extracting
pub mod Fed
pub mod Generated
pub mod Pairs
pub mod Rounds
pub mod Weights
