-- Definitions that only bodies use: no caller has to believe them.
pub mod Makes
