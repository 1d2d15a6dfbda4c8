-- Lemmas on regions and lines, and on the frames that they make up.
pub mod Areas
pub mod Border
pub mod Covering
pub mod Faultless
pub mod Framed
pub mod Keeping
pub mod Lined
pub mod Merged
pub mod Overlapping
pub mod Positions
pub mod Single
pub mod Sizes
pub mod Together
