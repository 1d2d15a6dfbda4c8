-- Definitions that only bodies and proofs use: no caller has to believe them.
pub mod Borders
pub mod Edges
pub mod Found
pub mod Frames
pub mod Gathered
pub mod Geometry
pub mod Known
pub mod Sought
pub mod Tools
