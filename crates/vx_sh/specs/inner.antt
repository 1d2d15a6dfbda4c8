-- Definitions that only bodies use: no caller has to believe them.
pub mod Reading
pub mod Writing
pub mod Sending
