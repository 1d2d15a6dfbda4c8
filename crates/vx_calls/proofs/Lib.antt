-- Lemmas of this crate.
mod Example
