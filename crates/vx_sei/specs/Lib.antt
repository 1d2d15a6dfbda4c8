-- The definitions that the contracts of this crate cite.
pub mod Sei
pub mod inner
pub mod laws
