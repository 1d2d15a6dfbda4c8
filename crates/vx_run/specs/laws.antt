-- Statements of laws, which are proved: no caller has to believe them.
pub mod Status
