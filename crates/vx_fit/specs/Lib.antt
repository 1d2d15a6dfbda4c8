-- The definitions that the contracts of this crate cite.
pub mod FitFaults
pub mod FrameLines
pub mod Lowest
pub mod Placing
pub mod Sources
pub mod inner
pub mod laws
