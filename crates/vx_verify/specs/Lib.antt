-- The definitions that the contracts of this crate cite.
pub mod Verified
pub mod Line
pub mod Verifying
pub mod inner
