-- Lemmas of this crate.
pub mod Coming
pub mod Cutting
pub mod Few
pub mod Handing
pub mod Merged
pub mod Mixing
pub mod Steps
