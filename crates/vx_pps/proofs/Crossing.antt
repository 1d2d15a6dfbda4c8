-- Whether loop filters cross the borders of tiles and slices, among what is stated of these.
use Rattle.std.proofs.Common.{◌≡◌, ℕ, pos, ◌+◌, ◌-◌, ◌*◌, ◌==◌, ◌&&◌, true, false, cond, not, Bool, List, [], ◌∷◌, ◌++◌, length, refl, ap, ◌∙◌}
use Rattle.std.specs.Prelude.{nat_lt}
use Rattle.vx_bits.specs.declared.list.Item.{Item}
use Rattle.vx_layout.specs.Bounds.{sizes_between}
use Rattle.vx_layout.specs.Heights.{written_heights}
use Rattle.vx_table.specs.Scope.{one_if, powers_below}
use Rattle.vx_table.proofs.With.{Passing, lacks, passing_append, passing_where, with_field, with_first, with_second}
use Rattle.vx_pps.specs.declared.shape.PpsShape.{PpsShape}
use Rattle.vx_pps.specs.declared.tiles.Tiles.{Tiles}
use Rattle.vx_pps.specs.Tiles.{across, column, down, row, tile}
use Rattle.vx_pps.specs.Slices.{may_be_cut}
use Rattle.vx_pps.specs.Groups.{Group, cut, high_of, spells_height, first_tile_of, whole, wide_of}
use Rattle.vx_pps.specs.Reshaped.{divided_items, has_deltas, slice_list_items, tile_flag_items, tile_items}
use Rattle.vx_table.specs.Rewritten.{where_so}
use Rattle.vx_pps.specs.Written.{delta_items, height_items, heights_items, only_item, last_items, list_items, tile_size_items, strip_items, turn_items, width_items}

-- ---- what stands beside the flags

module _ (test : ℕ → Bool) where
  sizes_pass : (of : ℕ) → test of ≡ true → (sizes : List ℕ) → Passing test (tile_size_items of sizes)
  sizes_pass of is [] = tt
  sizes_pass of is (size ∷ sizes) = (is, sizes_pass of is sizes)

  tiles_pass : test 418 ≡ true → test 419 ≡ true → test 420 ≡ true → test 421 ≡ true → (shape : PpsShape) → Passing test (tile_items shape)
  tiles_pass a b c d shape =
      (a, (b, passing_append test (tile_size_items 420 (sizes_between shape.tiles.columns)) (tile_size_items 421 (sizes_between shape.tiles.rows)) (sizes_pass 420 c (sizes_between shape.tiles.columns)) (sizes_pass 421 d (sizes_between shape.tiles.rows))))

  unless_so : (b : Bool) (xs : List Item) → Passing test xs → Passing test (cond b [] xs)
  unless_so true xs all = tt
  unless_so false xs all = all

  -- the fields of a slice list
  record PassList : Type 0 where
    wide : test 427 ≡ true
    high : test 428 ≡ true
    count : test 429 ≡ true
    strip : test 430 ≡ true
    delta : test 431 ≡ true

  module _ (pass : PassList) where
    strips_pass : (heights : List ℕ) → Passing test (strip_items heights)
    strips_pass [] = tt
    strips_pass (height ∷ heights) = (pass.strip, strips_pass heights)

    heights_pass : (g : Tiles) (group : Group) → Passing test (heights_items g group)
    heights_pass g (whole t wide high) = passing_where test (may_be_cut (wide - 1) (high - 1) (tile g t)) (only_item 429 (pos 0)) (pass.count, tt)
    heights_pass g (cut t heights) = (pass.count, strips_pass (written_heights heights))

    delta_pass : (spelled : Bool) (t next : ℕ) → Passing test (delta_items spelled t next)
    delta_pass true t next = (pass.delta, tt)
    delta_pass false t next = tt

    turn_pass : (g : Tiles) (deltas spelled : Bool) (group : Group) (next : ℕ) → Passing test (turn_items g deltas spelled group next)
    turn_pass g deltas spelled group next =
        passing_append test (width_items g (first_tile_of group) (wide_of group)) (height_items g deltas (first_tile_of group) (high_of group) ++ (heights_items g group ++ delta_items spelled (first_tile_of group) next))
        (unless_so (column g (first_tile_of group) + 1 == across g) (only_item 427 (pos (wide_of group - 1))) (pass.wide, tt))
        (passing_append test (height_items g deltas (first_tile_of group) (high_of group)) (heights_items g group ++ delta_items spelled (first_tile_of group) next)
        (unless_so (row g (first_tile_of group) + 1 == down g) (cond (spells_height g deltas (first_tile_of group)) (only_item 428 (pos (high_of group - 1))) [])
        (passing_where test (spells_height g deltas (first_tile_of group)) (only_item 428 (pos (high_of group - 1))) (pass.high, tt)))
        (passing_append test (heights_items g group) (delta_items spelled (first_tile_of group) next) (heights_pass g group) (delta_pass spelled (first_tile_of group) next)))

    last_pass : (g : Tiles) (deltas : Bool) (group : Group) → Passing test (last_items g deltas group)
    last_pass g deltas (whole t wide high) = tt
    last_pass g deltas (cut t heights) = turn_pass g deltas false (cut t heights) 0

    list_pass : (g : Tiles) (deltas : Bool) (groups : List Group) → Passing test (list_items g deltas groups)
    list_pass g deltas [] = tt
    list_pass g deltas (group ∷ []) = last_pass g deltas group
    list_pass g deltas (group ∷ next ∷ more) =
        passing_append test (turn_items g deltas deltas group (first_tile_of next)) (list_items g deltas (next ∷ more)) (turn_pass g deltas deltas group (first_tile_of next)) (list_pass g deltas (next ∷ more))

    slices_pass : test 425 ≡ true → test 426 ≡ true → test 432 ≡ true → (shape : PpsShape) (groups : List Group) → Passing test (slice_list_items shape groups)
    slices_pass last_ deltas flag shape groups =
        let listed : List Item = list_items shape.tiles (has_deltas shape) groups in
        let last_flag : List Item = where_so (nat_lt 1 (length shape.slices)) (only_item 432 (pos (one_if shape.across_slices))) in (
          last_,
          passing_append test (where_so (has_deltas shape) (only_item 426 (pos 1))) (listed ++ last_flag) (passing_where test (has_deltas shape) (only_item 426 (pos 1)) (deltas, tt))
              (passing_append test listed last_flag (list_pass shape.tiles (has_deltas shape) groups) (passing_where test (nat_lt 1 (length shape.slices)) (only_item 432 (pos (one_if shape.across_slices))) (flag, tt))),
        )

-- all but the CTU size
behind_ctb : (test : ℕ → Bool) → PassList test → test 418 ≡ true → test 419 ≡ true → test 420 ≡ true → test 421 ≡ true → test 422 ≡ true → test 423 ≡ true → test 424 ≡ true → test 425 ≡ true → test 426 ≡ true → test 432 ≡ true
    → (shape : PpsShape) (groups : List Group) → Passing test (tile_items shape ++ (tile_flag_items shape ++ (only_item 424 (pos 0) ++ slice_list_items shape groups)))
behind_ctb test pass a b c d e f g h k l shape groups =
    passing_append test (tile_items shape) (tile_flag_items shape ++ (only_item 424 (pos 0) ++ slice_list_items shape groups)) (tiles_pass test a b c d shape)
    (passing_append test (tile_flag_items shape) (only_item 424 (pos 0) ++ slice_list_items shape groups)
    (passing_where test (nat_lt 1 (across shape.tiles * down shape.tiles)) (only_item 422 (pos (one_if shape.across_tiles)) ++ only_item 423 (pos 1)) (e, (f, tt)))
    (g, slices_pass test pass h k l shape groups))

-- a field of none of them
abbrev pub is_dividing : ℕ → Bool
is_dividing f = nat_lt 416 f && nat_lt f 433

pub division_without : (of : ℕ) (shape : PpsShape) (groups : List Group) → is_dividing of ≡ false → with_field of (divided_items shape groups) ≡ []
division_without of shape groups aside =
    lacks is_dividing of (divided_items shape groups) aside
    (refl, behind_ctb is_dividing (record { wide = refl; high = refl; count = refl; strip = refl; delta = refl }) refl refl refl refl refl refl refl refl refl refl shape groups)

-- the CTU size stands first
pub ctb_with : (shape : PpsShape) (groups : List Group) → with_field 417 (divided_items shape groups) ≡ only_item 417 (pos (powers_below 32 shape.ctb - 5))
ctb_with shape groups = ap (λ xs. only_item 417 (pos (powers_below 32 shape.ctb - 5)) ++ xs)
    (lacks (λ f. nat_lt 417 f) 417 (tile_items shape ++ (tile_flag_items shape ++ (only_item 424 (pos 0) ++ slice_list_items shape groups))) refl
    (behind_ctb (λ f. nat_lt 417 f) (record { wide = refl; high = refl; count = refl; strip = refl; delta = refl }) refl refl refl refl refl refl refl refl refl refl shape groups))

-- ---- the flags

abbrev pub no_tile_flag : ℕ → Bool
no_tile_flag f = not (f == 422)

abbrev pub no_slice_flag : ℕ → Bool
no_slice_flag f = not (f == 432)

module _ (shape : PpsShape) (groups : List Group) where
  abbrev listed : List Item
  listed = list_items shape.tiles (has_deltas shape) groups

  abbrev last_flag : List Item
  last_flag = where_so (nat_lt 1 (length shape.slices)) (only_item 432 (pos (one_if shape.across_slices)))

  behind_tiles : Passing no_tile_flag (slice_list_items shape groups)
  behind_tiles = slices_pass no_tile_flag (record { wide = refl; high = refl; count = refl; strip = refl; delta = refl }) refl refl refl shape groups

  pub tile_flag : nat_lt 1 (across shape.tiles * down shape.tiles) ≡ true → with_field 422 (divided_items shape groups) ≡ only_item 422 (pos (one_if shape.across_tiles))
  tile_flag several =
      with_second 422 (tile_items shape) (tile_flag_items shape ++ (only_item 424 (pos 0) ++ slice_list_items shape groups)) (lacks no_tile_flag 422 (tile_items shape) refl (tiles_pass no_tile_flag refl refl refl refl shape))
      ∙ with_first 422 (tile_flag_items shape) (only_item 424 (pos 0) ++ slice_list_items shape groups) (lacks no_tile_flag 422 (only_item 424 (pos 0) ++ slice_list_items shape groups) refl (refl, behind_tiles))
      ∙ ap (λ b. with_field 422 (where_so b (only_item 422 (pos (one_if shape.across_tiles)) ++ only_item 423 (pos 1)))) several

  pub slice_flag : nat_lt 1 (length shape.slices) ≡ true → with_field 432 (divided_items shape groups) ≡ only_item 432 (pos (one_if shape.across_slices))
  slice_flag several =
      with_second 432 (tile_items shape) (tile_flag_items shape ++ (only_item 424 (pos 0) ++ slice_list_items shape groups)) (lacks no_slice_flag 432 (tile_items shape) refl (tiles_pass no_slice_flag refl refl refl refl shape))
      ∙ with_second 432 (tile_flag_items shape) (only_item 424 (pos 0) ++ slice_list_items shape groups) (lacks no_slice_flag 432 (tile_flag_items shape) refl (passing_where no_slice_flag (nat_lt 1 (across shape.tiles * down shape.tiles)) (only_item 422 (pos (one_if shape.across_tiles)) ++ only_item 423 (pos 1)) (refl, (refl, tt))))
      ∙ with_second 432 (where_so (has_deltas shape) (only_item 426 (pos 1))) (listed ++ last_flag) (lacks no_slice_flag 432 (where_so (has_deltas shape) (only_item 426 (pos 1))) refl (passing_where no_slice_flag (has_deltas shape) (only_item 426 (pos 1)) (refl, tt)))
      ∙ with_second 432 listed last_flag (lacks no_slice_flag 432 listed refl (list_pass no_slice_flag (record { wide = refl; high = refl; count = refl; strip = refl; delta = refl }) shape.tiles (has_deltas shape) groups))
      ∙ ap (λ b. with_field 432 (where_so b (only_item 432 (pos (one_if shape.across_slices))))) several
