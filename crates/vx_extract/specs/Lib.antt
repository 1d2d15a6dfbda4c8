-- The definitions that the contracts of this crate cite.
pub mod Again
pub mod Extracting
pub mod Kept
pub mod Ready
pub mod Rules
pub mod Shapes
pub mod Whole
pub mod Written
pub mod inner
