pub mod Call
pub mod Extractor
pub mod Handles
pub mod InMemory
pub mod Merger
