-- What is known of each picture of a round. Our own.
use Rattle.std.specs.Prelude.{◌≡◌, length}
use Rattle.vx_pic.specs.Parts.{Parts}
use Rattle.vx_write.specs.InForce.{AreInForce}

-- Its sets are in force, and it has all slices of its layout.
pub record IsKnown (q : Parts) : Type 0 where
  pub sets : AreInForce q
  pub whole : length q.slices ≡ length q.layout.slices
