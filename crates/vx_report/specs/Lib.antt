-- The definitions that the contracts of this crate cite.
pub mod FieldsLine
pub mod InputLines
pub mod PictureLine
pub mod RefusalLine
pub mod SetLine
pub mod SliceLine
pub mod UnitLine
