-- Lemmas on the form of a picture header, and on the sets in force.
pub mod Carrying
pub mod Passing
mod Rewriting
pub mod Admitting
pub mod Telling
pub mod Sets
pub mod Same
pub mod Opening
pub mod Making
pub mod Renaming
pub mod Filtering
mod Maps
mod Reshaping
mod Spelling
mod Id
mod Once
pub mod Enabled
pub mod Bounding
pub mod ShortLists
pub mod Copied
pub mod Short
