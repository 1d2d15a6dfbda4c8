-- The definitions that the contracts of this crate cite.
pub mod Codes
pub mod Fields
pub mod Limits
pub mod Place
pub mod inner
pub mod laws
