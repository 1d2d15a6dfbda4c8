-- The definitions that the laws of this crate cite.
pub mod Sources
pub mod Played
pub mod Frames
pub mod Rounds
pub mod Streams
pub mod Regions
pub mod Whole
