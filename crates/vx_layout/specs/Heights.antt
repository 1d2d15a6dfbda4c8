-- The slice heights that are written for a tile of several slices (H.266 7.4.3.5, pps_exp_slice_height_in_ctus_minus1 + 1).
-- Definitions of written slice lists in `vx_pps` rely on it.
use Rattle.std.specs.Prelude.{ℕ, ◌-◌, nat_le, cond, List, length, take}
use Rattle.vx_layout.specs.Bounds.{last}

-- Heights without the last (our own).
abbrev pub all_but_last : List ℕ → List ℕ
all_but_last heights = take (length heights - 1) heights

-- All heights except the last, if the last isn't higher than the one before it, otherwise all. `tile_sizes` of them and the
-- tile's height are then the heights again (6.5.1, SliceHeightInCtus).
abbrev pub written_heights : List ℕ → List ℕ
written_heights heights = cond (nat_le (last heights) (last (all_but_last heights))) (all_but_last heights) heights
