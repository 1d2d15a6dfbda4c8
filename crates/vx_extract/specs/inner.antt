-- Definitions that only bodies and proofs use: no caller has to believe them.
pub mod Needed
pub mod Rewritings
pub mod Sending
pub mod Writing
