-- The definitions that the contracts of this crate cite.
pub mod Slice
pub mod Depends
pub mod Whole
pub mod Value
pub mod InForce
pub mod Elsewhere
pub mod Reshaped
pub mod inner
pub mod laws
