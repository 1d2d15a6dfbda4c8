-- Definitions that only bodies and proofs use: no caller has to believe them.
pub mod Counting
pub mod Fronts
pub mod Making
pub mod Progress
pub mod Ready
pub mod Sending
pub mod Taking
