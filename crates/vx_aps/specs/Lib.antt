-- The definitions that the contracts of this crate cite.
pub mod Aps
pub mod Fields
pub mod inner
pub mod laws
