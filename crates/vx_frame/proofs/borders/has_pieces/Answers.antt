use Rattle.std.proofs.Common.{ap, ◌∙◌}
use Rattle.vx_pic.specs.Inputs.{has_several_slices, has_several_tiles}
use Rattle.vx_frame.proofs.Layouts.{layout_read}
use Rattle.vx_frame.proofs.borders.has_pieces.Goals as goal

pub returns-in-Tiles : goal.returns-in-Tiles
returns-in-Tiles c =
    rw c.in-Tiles.is
    (c.several_tiles.ensures ∙ ap has_several_tiles (layout_read c.args._round.now c.args.layouts.now c.args.k c.index-layouts-k.result c.requires.layouts c.requires.k c.index-layouts-k.is))

pub returns-in-Slices : goal.returns-in-Slices
returns-in-Slices c =
    rw c.in-Slices.is
    (c.several_slices.ensures
    ∙ ap has_several_slices (layout_read c.args._round.now c.args.layouts.now c.args.k c.index-layouts-k-in-Slices.result c.requires.layouts c.requires.k c.index-layouts-k-in-Slices.is))
