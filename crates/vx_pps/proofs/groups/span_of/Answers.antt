use Rattle.std.proofs.Common.{◌+◌, ◌^◌, ◌<◌, get_or, sym, ◌∙◌, arith}
use Rattle.vx_layout.specs.declared.rect.Rect.{Rect}
use Rattle.vx_layout.specs.Layouts.{no_rect}
use Rattle.vx_pps.specs.Groups.{high_of, first_tile_of, wide_of}
use Rattle.vx_pps.specs.Tiles.{column, row}
use Rattle.vx_pps.proofs.Finding.{group_edges, in_picture, upto_last}
use Rattle.vx_pps.proofs.groups.span_of.Goals as goal

pub returns : goal.returns
returns c = λ group is same.
    let first : Rect = get_or c.args.slices.now 0 no_rect in
    let inside = in_picture c.args.tiles.now group c.requires.grid is in
    let e = group_edges c.args.tiles.now group c.args.slices.now no_rect c.requires.grid c.index_of-left.ensures.rises c.index_of-top.ensures.rises is same in
    let narrow : first.x + first.w < 2 ^ 32 = omega (arith, e.0.right, upto_last c.args.tiles.now.columns (column c.args.tiles.now (first_tile_of group) + wide_of group) c.index_of-left.ensures.rises inside.columns_in) in
    let left = c.index_of-left.ensures.index (column c.args.tiles.now (first_tile_of group)) (omega (arith, inside.columns_in)) e.0.left in
    let right = c.index_of.ensures.index (column c.args.tiles.now (first_tile_of group) + wide_of group) inside.columns_in (e.0.right ∙ sym (c.right.ensures narrow)) in
    let top = c.index_of-top.ensures.index (row c.args.tiles.now (first_tile_of group)) (omega (arith, inside.rows_in)) e.0.top in
    let bottom = c.index_of-2.ensures.index (row c.args.tiles.now (first_tile_of group) + high_of group) inside.rows_in (sym (c.bottom.ensures e.2 ∙ e.1)) in
    record {
      start_is = c.tile_of.ensures.tile (first_tile_of group) is.inside e.0.left e.0.top;
      wide_is = omega (arith, left, right, c.saturating_sub.ensures);
      high_is = omega (arith, top, bottom, c.saturating_sub-2.ensures);
    }
