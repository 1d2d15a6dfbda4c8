-- Where the regions of a frame may begin. Our own.
use Rattle.std.specs.Prelude.{◌<◌, ◌≤◌, List, All, length}
use Rattle.vx_frame.specs.declared.corner.Corner.{Corner}

-- A corner that a region of a frame may have.
abbrev pub IsCorner : Corner → Type 0
IsCorner corner = (corner.x < 16384) × (corner.y < 16384)

-- One to 64 of them.
pub record AreCorners (corners : List Corner) : Type 0 where
  pub some : 0 < length corners
  pub few : length corners ≤ 64
  pub each : All IsCorner corners
