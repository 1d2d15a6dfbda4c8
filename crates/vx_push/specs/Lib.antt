-- The definitions that the contracts of this crate cite.
pub mod Comes
pub mod Cutting
pub mod Handed
pub mod Line
pub mod Mixing
pub mod inner
