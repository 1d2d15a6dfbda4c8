-- Definitions that only bodies and proofs use: no caller has to believe them.
pub mod Advancing
pub mod Extracting
pub mod Merging
pub mod Placings
pub mod Playing
pub mod Showing
pub mod Stopping
pub mod Verifying
pub mod Words
pub mod Asked
