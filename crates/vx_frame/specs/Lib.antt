-- The definitions that the contracts of this crate cite.
pub mod Bodies
pub mod Collocated
pub mod Corners
pub mod Counts
pub mod Regions
pub mod Rounds
pub mod Rules
pub mod Shapes
pub mod Verdict
pub mod inner
