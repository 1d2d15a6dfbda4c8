-- The numbers of fields and names.
pub mod Names
pub mod laws
