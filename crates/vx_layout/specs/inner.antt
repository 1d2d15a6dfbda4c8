-- Definitions that only bodies and proofs use: no caller has to believe them.
pub mod Groups
pub mod Lines
pub mod Marks
pub mod Neighbours
