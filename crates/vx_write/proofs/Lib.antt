-- Lemmas of this crate.
pub mod Ids
pub mod Sizes
pub mod Regions
pub mod Listable
pub mod Ending
pub mod Held
pub mod Vacant
pub mod Headed
pub mod Tids
pub mod Spelled
pub mod SetBySet
pub mod Writing
pub mod OneUnit
pub mod UnitsRead
pub mod Standing
pub mod OwnSets
pub mod Messages
