-- The definitions that the contracts of this crate cite.
pub mod Draws
pub mod Laws
pub mod Merges
pub mod Pictures
pub mod Rounds
pub mod Shown
pub mod Streams
pub mod Units
