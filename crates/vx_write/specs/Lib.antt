-- The definitions that the contracts of this crate cite.
pub mod Again
pub mod Faults
pub mod InForce
pub mod Sending
pub mod Sets
pub mod Slots
pub mod Units
pub mod Writing
pub mod inner
