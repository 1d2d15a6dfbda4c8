-- The definitions that the contracts of this crate cite.
pub mod Borders
pub mod Bounds
pub mod Faults
pub mod Frames
pub mod Heights
pub mod Layouts
pub mod Rects
pub mod Regions
pub mod Scan
pub mod Shapes
pub mod TileErrors
pub mod inner
pub mod laws
