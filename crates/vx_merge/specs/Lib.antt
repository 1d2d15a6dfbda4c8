-- The definitions that the contracts of this crate cite.
pub mod Ends
pub mod Headers
pub mod Joins
pub mod Merging
pub mod Needed
pub mod Slots
pub mod Written
pub mod inner
