-- The definitions that the contracts of this crate cite.
pub mod Structure
pub mod Set
pub mod Subpictures
pub mod Depends
pub mod Reshaped
pub mod inner
pub mod laws
