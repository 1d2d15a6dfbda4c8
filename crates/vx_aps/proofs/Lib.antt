-- Lemmas on adaptation parameter sets.
mod Bytes
mod Fielded
