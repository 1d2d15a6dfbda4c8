-- The structures, the run of their items, and what their fields depend on.
pub mod Run
pub mod Spelling
pub mod Structures
pub mod laws
