-- Definitions that only bodies and proofs use: no caller has to believe them.
pub mod Feeds
pub mod Laws
pub mod Merges
pub mod Regions
pub mod Weighing
