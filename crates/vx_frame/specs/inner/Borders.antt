-- The pieces of a picture whose borders in-loop filters may cross. Our own.
use Rattle.std.specs.Prelude.{Bool}
use Rattle.vx_pic.specs.Parts.{Parts}
use Rattle.vx_frame.specs.declared.borders.Pieces.{Pieces}
use Rattle.vx_frame.specs.declared.borders.Pieces.TheVariants.{Tiles, Slices}
use Rattle.vx_frame.specs.Rules.{crosses_slices, crosses_tiles, has_slices, has_tiles}

-- There are several of them.
abbrev pub has_several : Pieces → Parts → Bool
has_several Tiles = has_tiles
has_several Slices = has_slices

-- In-loop filters cross their borders.
abbrev pub crosses : Pieces → Parts → Bool
crosses Tiles = crosses_tiles
crosses Slices = crosses_slices
