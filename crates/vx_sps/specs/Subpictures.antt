-- The subpictures of a set's pictures (H.266 7.4.3.4), from its items. The contracts of `Sps` rely on it.
use Rattle.std.specs.Prelude.{ℕ, ◌+◌, ◌-◌, ◌*◌, ◌/◌, ◌%◌, max, Bool, cond, ◌==◌, nat_lt}
use Rattle.std.specs.Prelude.{List, length, slice_index, slice_index_or}
use Rattle.vx_bits.specs.declared.list.Item.{Item}
use Rattle.vx_fields.specs.declared.sps.TheConstants as sps
use Rattle.vx_layout.specs.declared.rect.Rect.{Rect}
use Rattle.vx_table.specs.Scope.{capped, is_set}
use Rattle.vx_table.specs.Loaded.{number}
use Rattle.vx_sps.specs.Set.{ctu_columns_of, ctu_rows_of}
use Rattle.vx_table.specs.Loaded.{numbers_of}

-- How many there are (7.4.3.4).
abbrev pub subpics_of : List Item → ℕ
subpics_of items = number items sps.sps_num_subpics_minus1 + 1

-- ---- rectangles, in CTUs (7.4.3.4)

-- sps_subpic_ctu_top_left_x or _y of subpicture i, which the first one lacks; 0 if it is absent (7.4.3.4).
abbrev pub ctu_top_left_at : List ℕ → ℕ → ℕ
ctu_top_left_at corners i = cond (i == 0) 0 (slice_index corners (i - 1))

-- sps_subpic_width_minus1 or _height_minus1 of it, plus 1; if it is absent, the subpicture extends to the border (7.4.3.4).
abbrev pub size_at : List ℕ → ℕ → ℕ → ℕ → ℕ
size_at sizes border corner i = cond (nat_lt i (length sizes)) (capped (slice_index sizes i + 1)) (border - corner)

-- A rectangle that is coded on its own (7.4.3.4).
abbrev pub own_rect : List Item → ℕ → Rect
own_rect items i =
    let x = ctu_top_left_at (numbers_of items sps.sps_subpic_ctu_top_left_x) i in
    let y = ctu_top_left_at (numbers_of items sps.sps_subpic_ctu_top_left_y) i in
    record {
      x = x;
      y = y;
      w = size_at (numbers_of items sps.sps_subpic_width_minus1) (ctu_columns_of items) x i;
      h = size_at (numbers_of items sps.sps_subpic_height_minus1) (ctu_rows_of items) y i;
    }

-- How many of a width fit next to each other: numSubpicCols, at least 1 (7.4.3.4).
abbrev pub subpic_columns : ℕ → ℕ → ℕ
subpic_columns columns w = cond (w == 0) 1 (max (columns / w) 1)

-- Rectangle i on the grid of the first one's size (7.4.3.4).
abbrev pub on_grid : ℕ → Rect → ℕ → Rect
on_grid columns first i = record {
  x = capped ((i % subpic_columns columns first.w) * first.w);
  y = capped ((i / subpic_columns columns first.w) * first.h);
  w = first.w;
  h = first.h;
}

-- The rectangle of subpicture i (7.4.3.4).
abbrev pub rect_of : List Item → ℕ → Rect
rect_of items i =
    cond (is_set (number items sps.sps_subpic_same_size_flag)) (on_grid (ctu_columns_of items) (own_rect items 0) i) (own_rect items i)

-- ---- flags and ids (7.4.3.4)

-- It is treated as a picture, also if all are independent or it is the only one (7.4.3.4).
abbrev pub is_treated : List Item → ℕ → Bool
is_treated items i = is_set (slice_index_or (numbers_of items sps.sps_subpic_treated_as_pic_flag) i 1)

-- In-loop filters cross its borders (7.4.3.4).
abbrev pub is_filtered : List Item → ℕ → Bool
is_filtered items i = is_set (slice_index_or (numbers_of items sps.sps_loop_filter_across_subpic_enabled_flag) i 0)

-- Its id if no PPS gives another: sps_subpic_id, or i if that is absent (7.4.3.4).
abbrev pub sps_subpic_id_of : List Item → ℕ → ℕ
sps_subpic_id_of items i = slice_index_or (numbers_of items sps.sps_subpic_id) i i
