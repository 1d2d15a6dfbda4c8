-- The definitions that the contracts of this crate cite.
pub mod Header
pub mod Id
pub mod InForce
pub mod Depends
pub mod Picture
pub mod Reshaped
pub mod Filter
pub mod inner
pub mod laws
