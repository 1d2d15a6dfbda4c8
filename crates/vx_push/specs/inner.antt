-- Definitions that only bodies and proofs use: no caller has to believe them.
pub mod Comes
pub mod Cutting
pub mod Mixing
