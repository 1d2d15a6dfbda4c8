-- The slice list of a picture parameter set: its fields in order, and the rectangles of its slices (H.266 7.3.2.5, 7.4.3.5, 6.5.1).
-- The definition of a set's form relies on it.
use Rattle.std.specs.Prelude.{◌==◌, ℕ, pos, zero, suc, ◌+◌, ◌-◌, ◌*◌, neg_ℤ, ◌+ℤ◌, ◌&&◌, nat_le, nat_lt, Bool, false, cond}
use Rattle.std.specs.Prelude.{List, [], ◌∷◌, ◌++◌, length, Option, Some, None}
use Rattle.std.specs.Int.{div_ceil}
use Rattle.vx_fields.specs.declared.pps.TheConstants as pps
use Rattle.vx_layout.specs.declared.rect.Rect.{Rect}
use Rattle.vx_layout.specs.Bounds.{repeated_sizes}
use Rattle.vx_table.specs.declared.rows.Cell.{Cell}
use Rattle.vx_table.specs.declared.rows.Coding.TheVariants.{Golomb, SignedGolomb}
use Rattle.vx_table.specs.declared.rows.Fault.TheVariants.{OutOfRange}
use Rattle.vx_table.specs.declared.rows.Limits.{Limits}
use Rattle.vx_table.specs.declared.rows.Limits.TheVariants.{Within, Below}
use Rattle.vx_table.specs.Forms.{Form, done, field, ◌>>=◌}
use Rattle.vx_table.specs.Scope.{natural}
use Rattle.vx_pps.specs.declared.list.Listed.{Listed}
use Rattle.vx_pps.specs.declared.tiles.Tiles.{Tiles}
use Rattle.vx_pps.specs.Tiles.{across, block, column, down, row, tile, tile_behind}
use Rattle.vx_pps.specs.Groups.{spells_height, strips}

-- A number of ue(v), in these limits (our own).
abbrev pub golomb_form : ℕ → Limits ℕ → Form ℕ
golomb_form of limits = field (record { field = of; kept = false; coding = Golomb; limits = limits }) (λ v. done (natural v))

abbrev pub below : ℕ → Limits ℕ
below bound = Below bound OutOfRange

-- ---- the tile columns and rows (7.3.2.5, 7.4.3.5)

-- pps_tile_column_width_minus1 + 1 or pps_tile_row_height_minus1 + 1, by the number of CTUs that are left (7.3.2.5, 7.4.3.5).
abbrev pub tile_size_form : ℕ → ℕ → Form ℕ
tile_size_form of left = golomb_form of (below left) >>= λ v. done (v + 1)

-- A number of them, after others (7.3.2.5).
abbrev pub sizes_from : ℕ → ℕ → ℕ → List ℕ → Form (List ℕ)
sizes_from of zero left sizes = done sizes
sizes_from of (suc more) left sizes = tile_size_form of left >>= λ size. sizes_from of more (left - size) (sizes ++ size ∷ [])

-- ---- the fields of one slice, or of the slices of one tile (7.3.2.5, 7.4.3.5)

-- pps_slice_width_in_tiles_minus1, of a slice that begins at tile t: it isn't there in the last column (7.3.2.5, 7.4.3.5).
abbrev pub width_in_tiles : Tiles → ℕ → Form ℕ
width_in_tiles g t =
    cond (column g t + 1 == across g) (done 0) (golomb_form pps.pps_slice_width_in_tiles_minus1 (below (across g - column g t)))

-- pps_slice_height_in_tiles_minus1. It is absent in the last row, which gives 0, and if tile indices aren't coded and the slice
-- is next to the one before, whose height it has (7.3.2.5, 7.4.3.5).
abbrev pub height_in_tiles : Tiles → Bool → ℕ → ℕ → Form ℕ
height_in_tiles g deltas t before =
    cond (row g t + 1 == down g) (done 0)
    (cond (spells_height g deltas t) (golomb_form pps.pps_slice_height_in_tiles_minus1 (below (down g - row g t))) (done before))

-- The heights, less 1, that the next explicit slice of a tile may have. `left` CTU rows of the tile are left, and `room` slices of
-- the picture, including this one. The slice stays in the tile, and the last explicit one is so high that there are no more slices
-- of its height after it than are left (7.4.3.5).
abbrev pub height_limits : Bool → ℕ → ℕ → Limits ℕ
height_limits is_last left room =
    cond (is_last && nat_le 1 left) (Within (pos (div_ceil left room - 1)) (left - 1) OutOfRange) (below left)

-- pps_exp_slice_height_in_ctus_minus1 + 1, for the slice from CTU row y of the tile on, by the number of explicit ones after it;
-- the picture has `last` + 1 slices (7.3.2.5).
abbrev pub strip_height : Rect → ℕ → ℕ → ℕ → List Rect → Form ℕ
strip_height t last more y slices =
    golomb_form pps.pps_exp_slice_height_in_ctus_minus1 (height_limits (more == 0) (t.y + t.h - y) (last + 1 - length slices))
    >>= λ v. done (v + 1)

-- A number of explicit slices of the tile, from CTU row y on; then the last height again while it fits, and a rest if there is
-- one (7.3.2.5, SliceHeightInCtus of 6.5.1).
abbrev pub strips_from : Rect → ℕ → ℕ → ℕ → ℕ → List Rect → Form (List Rect)
strips_from t last zero y size slices = done (slices ++ strips t y (repeated_sizes size (t.y + t.h - y)))
strips_from t last (suc more) y size slices =
    strip_height t last more y slices >>= λ height. strips_from t last more (y + height) height (slices ++ strips t y (height ∷ []))

-- pps_num_exp_slices_in_tile, and the slices of the tile: it is one slice if the number is 0 (7.3.2.5, 7.4.3.5).
abbrev pub slices_in_tile : Rect → ℕ → List Rect → Form (List Rect)
slices_in_tile t last slices = do
  explicit ← golomb_form pps.pps_num_exp_slices_in_tile (below (last + 2 - length slices))
  cond (explicit == 0) (done (slices ++ t ∷ [])) (strips_from t last explicit t.y 0 slices)

-- A slice with these numbers of tiles across and down, less 1 each, is one tile of several CTU rows (7.3.2.5).
abbrev pub may_be_cut : ℕ → ℕ → Rect → Bool
may_be_cut width height t = (width == 0 && height == 0) && nat_lt 1 t.h

-- The slices that it adds (6.5.1).
abbrev pub slices_from_tile : Tiles → ℕ → ℕ → ℕ → ℕ → List Rect → Form (List Rect)
slices_from_tile g last t width height slices =
    cond (may_be_cut width height (tile g t)) (slices_in_tile (tile g t) last slices)
    (done (slices ++ block g t (width + 1) (height + 1) ∷ []))

-- pps_tile_idx_delta_val: it leads to a tile of the picture (7.4.3.5).
abbrev pub delta_cell : Tiles → ℕ → Cell ℕ
delta_cell g t = record {
  field = pps.pps_tile_idx_delta_val;
  kept = false;
  coding = SignedGolomb;
  limits = Within (neg_ℤ (pos t)) (across g * down g - 1 - t) OutOfRange;
}

abbrev pub delta : Tiles → ℕ → Form ℕ
delta g t = field (delta_cell g t) (λ v. done (natural (pos t +ℤ v)))

-- It is present if tile indices are coded and slices are left (7.3.2.5).
abbrev pub spells_delta : Bool → List Rect → ℕ → Bool
spells_delta deltas slices last = deltas && nat_le (length slices) last

-- The tile at which the next slice begins (SliceTopLeftTileIdx, 6.5.1).
abbrev pub tile_after : Tiles → Bool → ℕ → ℕ → ℕ → Form ℕ
tile_after g spelled t width height = cond spelled (delta g t) (done (tile_behind g t width height))

-- ---- the list (7.3.2.5)

-- One turn: from the slices so far, the tile at which the next one begins, and the height of the one before, less 1 (7.3.2.5).
abbrev pub turn : Tiles → ℕ → Bool → Listed → Form Listed
turn g last deltas at = do
  width ← width_in_tiles g at.next
  height ← height_in_tiles g deltas at.next at.before
  slices ← slices_from_tile g last at.next width height at.slices
  next ← tile_after g (spells_delta deltas slices last) at.next width height
  done (record { slices = slices; next = next; before = height })

-- Whether a slice before the last is left, and begins at a tile of the picture (7.3.2.5).
abbrev pub goes_on : Tiles → ℕ → Listed → Bool
goes_on g last at = nat_lt (length at.slices) last && nat_lt at.next (across g * down g)

-- Turns while this holds; this number of them is enough (7.3.2.5).
abbrev pub turns_from : Tiles → ℕ → Bool → ℕ → Listed → Form Listed
turns_from g last deltas zero at = done at
turns_from g last deltas (suc more) at =
    cond (goes_on g last at)
    (turn g last deltas at >>= turns_from g last deltas more)
    (done at)

-- The slices, if the list doesn't extend past the tiles: the last one, unless it is one of a tile's, extends from its tile to the
-- last column and row (7.4.3.5, 6.5.1).
abbrev pub all_slices : Tiles → ℕ → Listed → Option (List Rect)
all_slices g last at =
    cond (nat_lt last (length at.slices)) (Some at.slices)
    (cond (nat_lt at.next (across g * down g))
    (Some (at.slices ++ block g at.next (across g - column g at.next) (down g - row g at.next) ∷ []))
    None)

-- Before the first slice (our own).
abbrev pub none_listed : Listed
none_listed = record { slices = []; next = 0; before = 0 }

-- A picture with this number of slices, less 1 (7.3.2.5).
abbrev pub list_from : Tiles → ℕ → Bool → Form (Option (List Rect))
list_from g last deltas = do
  at ← turns_from g last deltas last none_listed
  done (all_slices g last at)
