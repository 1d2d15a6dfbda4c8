-- Lemmas of this crate.
mod Ranges
mod Walking
mod Sizing
mod Turning
mod Told
pub mod Sets
pub mod Short
mod Spelling
mod Ended
mod Named
mod Listable
mod Wide
mod Limits
pub mod Blocks
pub mod Runs
pub mod Grouping
pub mod Few
pub mod Pictures
pub mod Giving
pub mod Listing
pub mod Finding
pub mod Pushing
pub mod Division
pub mod Testing
pub mod Fronts
pub mod Alike
pub mod Keeping
pub mod Tooled
pub mod Cutting
pub mod Ids
pub mod Reshaping
pub mod Flags
pub mod Framing
pub mod Remade
pub mod Fields
pub mod Numbered
pub mod OneGrouping
mod Crossing
pub mod Telling
