-- The definitions that the laws of this crate cite.
pub mod Alike
pub mod Streams
pub mod Segments
pub mod Whole
