-- The definitions that the contracts of this crate cite.
pub mod Held
pub mod Fields
pub mod Feed
pub mod Memory
pub mod inner
