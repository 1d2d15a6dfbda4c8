-- Lemmas on codes, and on what a reader and a writer do.
pub mod Alignment
pub mod Appending
pub mod Bits
pub mod EightBytes
pub mod Golomb
pub mod Windows
