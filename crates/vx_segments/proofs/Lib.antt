-- Lemmas of this crate.
pub mod Behind
pub mod Reading
pub mod Segment
pub mod Bytes
pub mod Cut
pub mod Sources
pub mod Joining
pub mod Naming
pub mod Rounds
pub mod SameRules
pub mod SameWritten
pub mod Whole
pub mod Anew
