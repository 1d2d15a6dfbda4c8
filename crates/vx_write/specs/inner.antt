-- Definitions that only bodies and proofs use: no caller has to believe them.
pub mod Kept
pub mod Places
