mod Naming
-- Proofs on the numbers.
mod Rising
