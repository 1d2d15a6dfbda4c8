-- Lemmas.
mod Opening
