-- Statements of laws, which are proved: no caller has to believe them.
pub mod Addresses
pub mod Again
pub mod Enabled
pub mod Filter
pub mod Sizes
