use Rattle.vx_pps.proofs.Sizing.{sizes_grid}
use Rattle.vx_pps.proofs.grid.tiles.Goals as goal

pub returns-clause-grid : goal.returns-clause-grid
returns-clause-grid c =
    let fit_columns = rw c.as_slice.ensures at c.in-Ok.ensures.fits in
    let fit_rows = rw c.as_slice-2.ensures at c.in-Ok-tile_bounds.ensures.fits in
    let columns = rw c.as_slice.ensures at c.in-Ok.ensures.bounds in
    let rows = rw c.as_slice-2.ensures at c.in-Ok-tile_bounds.ensures.bounds in
    rw (columns, rows) (sizes_grid c.args.widths.now c.args.heights.now c.args.columns c.args.rows c.requires.widths.0 c.requires.widths.1 fit_columns c.requires.columns.0 c.requires.columns.1 c.requires.heights.0 c.requires.heights.1 fit_rows c.requires.rows.0 c.requires.rows.1)
