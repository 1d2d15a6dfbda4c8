-- Definitions that only bodies and proofs use: no caller has to believe them.
pub mod Layout
pub mod Bodies
pub mod Compared
pub mod ApsLists
pub mod Keyed
