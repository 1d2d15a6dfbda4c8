-- Definitions that only bodies and proofs use: no caller has to believe them.
pub mod Names
pub mod ByType
pub mod Loading
pub mod Leading
