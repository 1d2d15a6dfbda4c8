-- The first bytes of a unit.
use Rattle.std.specs.Prelude.{◌≡◌, ℕ, ◌<◌, List, length, take}

-- These are the unit's first bytes, and all of them if they are fewer than three.
pub record IsFront (front unit : List ℕ) : Type 0 where
  pub first : front ≡ take (length front) unit
  pub all : length front < 3 → front ≡ unit
