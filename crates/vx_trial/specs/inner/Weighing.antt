-- How far bytes are weighed. Our own.
use Rattle.std.specs.Prelude.{◌≡◌, ℕ, ◌+◌, ◌%◌, ◌^◌, List, length}
use Rattle.vx_trial.specs.declared.weight.Weight.{Weight}
use Rattle.vx_trial.specs.Trial.{weight}

-- These bytes were weighed, and the next one comes after them.
pub record Weighs (bytes : List ℕ) (w : Weight) : Type 0 where
  pub place : w.place ≡ (1 + length bytes) % 2 ^ 32
  pub sum : w.sum ≡ weight bytes
