-- The definitions that the contracts of this crate cite.
pub mod Lists
pub mod Resolved
pub mod Numbers
pub mod HeaderLists
pub mod Depends
pub mod Written
pub mod laws
