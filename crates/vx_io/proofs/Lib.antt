-- Lemmas on what sources give and sinks gain.
pub mod MemoryLemmas
pub mod WrittenLemmas
