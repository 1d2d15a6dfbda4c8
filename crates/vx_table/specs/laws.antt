-- Statements of laws, which are proved: no caller has to believe them.
pub mod Absence
pub mod Again
pub mod Bounds
pub mod Chains
pub mod Spelling
pub mod Rows
pub mod Sizes
pub mod Trailing
