-- The definitions that the contracts of this crate cite.
pub mod Tiles
pub mod Groups
pub mod Slices
pub mod Written
pub mod Partition
pub mod Items
pub mod Pps
pub mod Reshaped
pub mod inner
pub mod laws
