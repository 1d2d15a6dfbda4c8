-- The definitions that the contracts of this crate cite.
pub mod Faults
pub mod Listed
pub mod Memory
pub mod Outside
pub mod Written
