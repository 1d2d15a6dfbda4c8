-- Definitions that only bodies and proofs use: no caller has to believe them.
pub mod Held
pub mod Order
pub mod Queue
pub mod Reading
