-- Lemmas of this crate.
mod Divided
