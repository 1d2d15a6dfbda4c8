-- The tiles and slices of a picture parameter set: which fields they have, and that what is stated of a shape's goes through.
use Rattle.std.proofs.Common.{◌≡◌, ℕ, pos, zero, suc, ◌+◌, ◌-◌, ◌*◌, ◌^◌, ◌<◌, ◌≤◌, eqb, leb, ltb, Bool, true, false, cond, List, [], ◌∷◌, ◌++◌, length, Some, None, is_some, sym, ap, ◌∙◌, subst, inl, inr, arith, refl}
use Rattle.std.specs.Int.{div_ceil}
use Rattle.std.proofs.lemmas.Bool.{cases_Bool, cases_lt, eq-eqb, le-leb, le-ltb, lt-ltb, ltb-true, ne_eqb, true≢false}
use Rattle.vx_bits.specs.declared.list.Item.{Item}
use Rattle.vx_fields.specs.declared.pps.TheConstants as pps
use Rattle.vx_layout.specs.declared.rect.Rect.{Rect}
use Rattle.vx_layout.specs.Bounds.{Rises, bounds_of, last, sizes_between}
use Rattle.vx_layout.proofs.Rising.{length-le-last}
use Rattle.vx_table.specs.declared.rows.Cell.{Cell}
use Rattle.vx_table.specs.declared.rows.Fault.TheVariants.{Profile, Limit}
use Rattle.vx_table.specs.declared.rows.Limits.{Limits}
use Rattle.vx_table.specs.declared.rows.Limits.TheVariants.{Below, Within}
use Rattle.vx_table.specs.EachField.{EachField}
use Rattle.vx_table.specs.Forms.{Form, done, field, ◌>>=◌, has_value}
use Rattle.vx_table.specs.Scope.{is_set, natural, one_if, powers_below}
use Rattle.vx_table.specs.Spelling.{HasCode, fault_of, item_of}
use Rattle.vx_table.specs.laws.Trailing.{is_trailing}
use Rattle.vx_table.specs.Values.{Follows, to_end, through}
use Rattle.vx_table.proofs.EachField.{each_then}
use Rattle.vx_bits.specs.declared.rules.TheConstants.{TOO_MANY_SLICES, RASTER_SCAN_SLICES}
use Rattle.vx_pps.specs.declared.list.Listed.{Listed}
use Rattle.vx_pps.specs.declared.shape.PpsShape.{PpsShape}
use Rattle.vx_pps.specs.declared.tiles.Tiles.{Tiles}
use Rattle.vx_pps.specs.Tiles.{IsGrid, across, block, column, down, row, tile, tile_behind}
use Rattle.vx_pps.specs.Groups.{InGroups, IsList, spells_height}
use Rattle.vx_pps.specs.Partition.{across_flag, golomb_below, ctu_size, ctus_across, deltas_flag, divided, fixed_form, flag, impossible_flag, last_slice, listed_slices, partition, sizes_of, slices_among, subpicture_slices, tile_flags, tiles_among, undivided}
use Rattle.vx_pps.specs.Reshaped.{CanBeDivided, Divides, divided_items, has_deltas, slice_list_items, tile_flag_items, tile_items}
use Rattle.vx_table.specs.Rewritten.{where_so}
use Rattle.vx_pps.specs.Slices.{all_slices, below, delta, goes_on, height_in_tiles, list_from, may_be_cut, none_listed, golomb_form, sizes_from, slices_from_tile, slices_in_tile, spells_delta, strips_from, tile_after, turn, turns_from, width_in_tiles}
use Rattle.vx_pps.specs.Written.{Gives, only_item, list_items, tile_size_items}
use Rattle.vx_pps.proofs.Few.{few_fall}
use Rattle.vx_pps.proofs.Giving.{below_allows, bounds_read, gives_done, gives_end, gives_number, gives_then, natural_is}
use Rattle.vx_pps.proofs.Grouping.{lists_fall}
use Rattle.vx_pps.proofs.Listing.{given_back}
use Rattle.vx_pps.proofs.Pictures.{layouts_are}

-- ---- its fields

-- one of the fields between two, which isn't kept
abbrev pub IsBetween : ℕ → ℕ → Cell ℕ → Type 0
IsBetween low high cell = (low ≤ cell.field) × (cell.field ≤ high) × (cell.kept ≡ false) × (is_trailing cell.coding ≡ false)

-- one of those of tiles and slices
abbrev pub IsDividing : Cell ℕ → Type 0
IsDividing cell = IsBetween 417 432 cell

module _ (low high : ℕ) where
  each_number : (of : ℕ) (limits : Limits ℕ) → low ≤ of → of ≤ high → EachField (IsBetween low high) (golomb_form of limits)
  unfolding is_trailing
  each_number of limits from upto = ((from, upto, refl, refl), λ v. tt)

  each_fixed : (of bits : ℕ) (limits : Limits ℕ) → low ≤ of → of ≤ high → EachField (IsBetween low high) (fixed_form of bits limits)
  unfolding fixed_form is_trailing
  each_fixed of bits limits from upto = ((from, upto, refl, refl), λ v. tt)

  each_cond : {A : Type 0} (b : Bool) (f g : Form A) → EachField (IsBetween low high) f → EachField (IsBetween low high) g → EachField (IsBetween low high) (cond b f g)
  each_cond true f g on off = on
  each_cond false f g on off = off

  each_sizes : (of more left : ℕ) (sizes : List ℕ) → low ≤ of → of ≤ high → EachField (IsBetween low high) (sizes_from of more left sizes)
  unfolding is_trailing
  each_sizes of zero left sizes from upto = tt
  each_sizes of (suc more) left sizes from upto = ((from, upto, refl, refl), λ v. each_sizes of more (left - (natural v + 1)) (sizes ++ (natural v + 1) ∷ []) from upto)

  each_counted : (of bound : ℕ) → low ≤ of → of ≤ high → EachField (IsBetween low high) (golomb_below of bound)
  unfolding golomb_below
  each_counted of bound from upto = each_number of (below bound) from upto

  each_sizes_of : (of count total : ℕ) → low ≤ of → of ≤ high → EachField (IsBetween low high) (sizes_of of count total)
  unfolding sizes_of
  each_sizes_of of count total from upto = each_sizes of count total [] from upto

  each_wider : {A : Type 0} (less more : ℕ) (f : Form A) → low ≤ less → more ≤ high → EachField (IsBetween less more) f → EachField (IsBetween low high) f
  each_wider less more (done a) from upto each = tt
  each_wider less more (field cell goes) from upto each =
      ((omega (arith, from, each.0.0), omega (arith, upto, each.0.1), each.0.2, each.0.3), λ v. each_wider less more (goes v) from upto (each.1 v))

pub each_tiles : (columns rows : ℕ) → EachField (IsBetween 418 421) (tiles_among columns rows)
unfolding tiles_among
each_tiles columns rows =
    each_then _ _ _ (each_counted 418 421 pps.pps_num_exp_tile_columns_minus1 columns (omega arith) (omega arith))
    (λ c. each_then _ _ _ (each_counted 418 421 pps.pps_num_exp_tile_rows_minus1 rows (omega arith) (omega arith))
    (λ r. each_then _ _ _ (each_sizes_of 418 421 pps.pps_tile_column_width_minus1 (c + 1) columns (omega arith) (omega arith))
    (λ w. each_then _ _ _ (each_sizes_of 418 421 pps.pps_tile_row_height_minus1 (r + 1) rows (omega arith) (omega arith)) (λ h. tt))))

pub each_tile_flags : (g : Tiles) → EachField (IsBetween 422 423) (tile_flags g)
unfolding tile_flags
each_tile_flags g =
    each_cond 422 423 (ltb 1 (across g * down g)) (flag pps.pps_loop_filter_across_tiles_enabled_flag >>= λ v. fixed_form pps.pps_rect_slice_flag 1 (Within (pos 1) 1 (Profile RASTER_SCAN_SLICES))) (done 1)
    (each_then _ _ _ (each_fixed 422 423 pps.pps_loop_filter_across_tiles_enabled_flag 1 (below 2) (omega arith) (omega arith))
    (λ v. each_fixed 422 423 pps.pps_rect_slice_flag 1 (Within (pos 1) 1 (Profile RASTER_SCAN_SLICES)) (omega arith) (omega arith)))
    tt

each_width : (g : Tiles) (t : ℕ) → EachField (IsBetween 425 432) (width_in_tiles g t)
each_width g t =
    let limits : Limits ℕ = below (across g - column g t) in
    each_cond 425 432 (eqb (column g t + 1) (across g)) (done 0) (golomb_form pps.pps_slice_width_in_tiles_minus1 limits) tt (each_number 425 432 pps.pps_slice_width_in_tiles_minus1 limits (omega arith) (omega arith))

each_height : (g : Tiles) (deltas : Bool) (t before : ℕ) → EachField (IsBetween 425 432) (height_in_tiles g deltas t before)
each_height g deltas t before =
    let limits : Limits ℕ = below (down g - row g t) in
    let spelled : Form ℕ = golomb_form pps.pps_slice_height_in_tiles_minus1 limits in
    each_cond 425 432 (eqb (row g t + 1) (down g)) (done 0) (cond (spells_height g deltas t) spelled (done before)) tt
    (each_cond 425 432 (spells_height g deltas t) spelled (done before) (each_number 425 432 pps.pps_slice_height_in_tiles_minus1 limits (omega arith) (omega arith)) tt)

each_strips : (t : Rect) (last more y size : ℕ) (slices : List Rect) → EachField (IsBetween 425 432) (strips_from t last more y size slices)
unfolding is_trailing
each_strips t last_one zero y size slices = tt
each_strips t last_one (suc more) y size slices = ((omega arith, omega arith, refl, refl), λ v. each_strips t last_one more (y + (natural v + 1)) (natural v + 1) _)

each_in_tile : (t : Rect) (last : ℕ) (slices : List Rect) → EachField (IsBetween 425 432) (slices_in_tile t last slices)
unfolding is_trailing
each_in_tile t last_one slices =
    ((omega arith, omega arith, refl, refl), λ v. each_cond 425 432 (eqb (natural v) 0) (done (slices ++ t ∷ [])) (strips_from t last_one (natural v) t.y 0 slices) tt (each_strips t last_one (natural v) t.y 0 slices))

each_slices_at : (g : Tiles) (last t width height : ℕ) (slices : List Rect) → EachField (IsBetween 425 432) (slices_from_tile g last t width height slices)
each_slices_at g last_one t width height slices =
    each_cond 425 432 (may_be_cut width height (tile g t)) (slices_in_tile (tile g t) last_one slices) (done (slices ++ block g t (width + 1) (height + 1) ∷ [])) (each_in_tile (tile g t) last_one slices) tt

each_after : (g : Tiles) (spelled : Bool) (t width height : ℕ) → EachField (IsBetween 425 432) (tile_after g spelled t width height)
unfolding is_trailing
each_after g spelled t width height = each_cond 425 432 spelled (delta g t) (done (tile_behind g t width height)) ((omega arith, omega arith, refl, refl), λ v. tt) tt

each_turn : (g : Tiles) (last : ℕ) (deltas : Bool) (at : Listed) → EachField (IsBetween 425 432) (turn g last deltas at)
each_turn g last_one deltas at =
    each_then _ _ _ (each_width g at.next)
    (λ width. each_then _ _ _ (each_height g deltas at.next at.before)
    (λ height. each_then _ _ _ (each_slices_at g last_one at.next width height at.slices)
    (λ slices. each_then _ _ _ (each_after g (spells_delta deltas slices last_one) at.next width height) (λ next. tt))))

each_turns : (g : Tiles) (last : ℕ) (deltas : Bool) (more : ℕ) (at : Listed) → EachField (IsBetween 425 432) (turns_from g last deltas more at)
each_turns g last_one deltas zero at = tt
each_turns g last_one deltas (suc more) at =
    each_cond 425 432 (goes_on g last_one at) (turn g last_one deltas at >>= turns_from g last_one deltas more) (done at)
    (each_then (IsBetween 425 432) (turn g last_one deltas at) (turns_from g last_one deltas more) (each_turn g last_one deltas at) (λ next. each_turns g last_one deltas more next)) tt

each_deltas : (last : ℕ) → EachField (IsBetween 425 432) (deltas_flag last)
unfolding deltas_flag
each_deltas last_one = each_cond 425 432 (ltb 1 last_one) (flag pps.pps_tile_idx_delta_present_flag) (done 0) (each_fixed 425 432 pps.pps_tile_idx_delta_present_flag 1 (below 2) (omega arith) (omega arith)) tt

each_across : (last : ℕ) (inside : Bool) → EachField (IsBetween 425 432) (across_flag last inside)
unfolding across_flag
each_across last_one inside =
    let either : Form ℕ = cond inside (flag pps.pps_loop_filter_across_slices_enabled_flag) (impossible_flag pps.pps_loop_filter_across_slices_enabled_flag) in
    each_cond 425 432 (eqb last_one 0) (done 0) either tt
    (each_cond 425 432 inside (flag pps.pps_loop_filter_across_slices_enabled_flag) (impossible_flag pps.pps_loop_filter_across_slices_enabled_flag)
    (each_fixed 425 432 pps.pps_loop_filter_across_slices_enabled_flag 1 (below 2) (omega arith) (omega arith)) (each_fixed 425 432 pps.pps_loop_filter_across_slices_enabled_flag 1 (below 0) (omega arith) (omega arith)))

each_last : EachField (IsBetween 425 432) last_slice
unfolding last_slice
each_last = each_number 425 432 pps.pps_num_slices_in_pic_minus1 (Below 1000 (Limit TOO_MANY_SLICES)) (omega arith) (omega arith)

each_list : (g : Tiles) (last : ℕ) (deltas : Bool) → EachField (IsBetween 425 432) (list_from g last deltas)
each_list g last_one deltas = each_then (IsBetween 425 432) (turns_from g last_one deltas last_one none_listed) (λ at. done (all_slices g last_one at)) (each_turns g last_one deltas last_one none_listed) (λ at. tt)

each_listed : (g : Tiles) → EachField (IsBetween 425 432) (listed_slices g)
unfolding listed_slices
each_listed g =
    each_then _ _ _ each_last
    (λ last_one. each_then _ _ _ (each_deltas last_one)
    (λ deltas. each_then _ _ _ (each_list g last_one (is_set deltas))
    (λ slices. each_then _ _ _ (each_across last_one (is_some slices)) (λ across_. tt))))

pub each_among : (g : Tiles) (single : ℕ) → EachField (IsBetween 425 432) (slices_among g single)
unfolding slices_among subpicture_slices
each_among g single =
    each_cond 425 432 (is_set single) (flag pps.pps_loop_filter_across_slices_enabled_flag >>= λ v. done None) (listed_slices g)
    (each_then _ _ _ (each_fixed 425 432 pps.pps_loop_filter_across_slices_enabled_flag 1 (below 2) (omega arith) (omega arith)) (λ v. tt)) (each_listed g)

each_divided : (width height : ℕ) → EachField IsDividing (divided width height)
unfolding divided
each_divided width height =
    each_then _ _ _ (each_fixed 417 432 pps.pps_log2_ctu_size_minus5 2 (below 3) (omega arith) (omega arith))
    (λ log2. each_then _ _ _ (each_wider 417 432 418 421 (tiles_among (ctus_across width log2) (ctus_across height log2)) (omega arith) (omega arith) (each_tiles (ctus_across width log2) (ctus_across height log2)))
    (λ g. each_then _ _ _ (each_wider 417 432 422 423 (tile_flags g) (omega arith) (omega arith) (each_tile_flags g))
    (λ r. each_then _ _ _ (each_fixed 417 432 pps.pps_single_slice_per_subpic_flag 1 (below 2) (omega arith) (omega arith))
    (λ single. each_then _ _ _ (each_wider 417 432 425 432 (slices_among g single) (omega arith) (omega arith) (each_among g single)) (λ slices. tt)))))

pub each_division : (whole width height : ℕ) → EachField IsDividing (partition whole width height)
unfolding partition
each_division whole width height = each_cond 417 432 (is_set whole) (done undivided) (divided width height) tt (each_divided width height)

-- ---- what is stated goes through

gives_fixed : (of bits n : ℕ) (limits : Limits ℕ) → n < 2 ^ bits → n + 1 < 2 ^ 32 → fault_of limits (pos n) ≡ None → Gives (fixed_form of bits limits) (only_item of (pos n)) n
unfolding fixed_form HasCode item_of has_value
gives_fixed of bits n limits fits short range = record {
  values = pos n ∷ [];
  follows = subst (λ m. Follows (fixed_form of bits limits) (pos n ∷ []) m) (natural_is n (omega arith)) (through (record { code = fits; range = range }) to_end);
  given = refl;
}

gives_flag : (of : ℕ) (b : Bool) → Gives (flag of) (only_item of (pos (one_if b))) (one_if b)
gives_flag of true = gives_fixed of 1 1 (below 2) (omega arith) (omega arith) (below_allows 1 2 (omega arith))
gives_flag of false = gives_fixed of 1 0 (below 2) (omega arith) (omega arith) (below_allows 0 2 (omega arith))

gives_counted : (of n bound : ℕ) → n < bound → bound < 2 ^ 31 → Gives (golomb_below of bound) (only_item of (pos n)) n
unfolding golomb_below
gives_counted of n bound less low = gives_number of n (below bound) (omega arith) (below_allows n bound less)

-- sizes of bounds
gives_bounds : (of : ℕ) (bounds : List ℕ) → Rises bounds → 2 ≤ length bounds → last bounds ≤ 512 → Gives (sizes_of of (length bounds - 1 - 1 + 1) (last bounds)) (tile_size_items of (sizes_between bounds)) (sizes_between bounds)
unfolding sizes_of
gives_bounds of bounds rises several low =
    let back : length bounds - 1 ≡ length bounds - 1 - 1 + 1 = omega arith in
    subst (λ n. Gives (sizes_from of n (last bounds) []) (tile_size_items of (sizes_between bounds)) (sizes_between bounds)) back (bounds_read of bounds rises several (omega arith)).0

gives_tiles : (g : Tiles) → Rises g.columns → Rises g.rows → 2 ≤ length g.columns → 2 ≤ length g.rows → last g.columns ≤ 512 → last g.rows ≤ 512
    → Gives (tiles_among (last g.columns) (last g.rows))
    (only_item pps.pps_num_exp_tile_columns_minus1 (pos (across g - 1)) ++ (only_item pps.pps_num_exp_tile_rows_minus1 (pos (down g - 1))
    ++ (tile_size_items pps.pps_tile_column_width_minus1 (sizes_between g.columns) ++ tile_size_items pps.pps_tile_row_height_minus1 (sizes_between g.rows)))) g
unfolding tiles_among
gives_tiles g rises_columns rises_rows wide high low_columns low_rows =
    let same_columns = (bounds_read pps.pps_tile_column_width_minus1 g.columns rises_columns wide (omega arith)).1 in
    let same_rows = (bounds_read pps.pps_tile_row_height_minus1 g.rows rises_rows high (omega arith)).1 in
    let is_g : Tiles = record { columns = bounds_of (sizes_between g.columns) (last g.columns); rows = bounds_of (sizes_between g.rows) (last g.rows) } in
    let same_tiles : is_g ≡ g = ap (λ c. record { columns = c; rows = bounds_of (sizes_between g.rows) (last g.rows) }) same_columns ∙ ap (λ r. record { columns = g.columns; rows = r }) same_rows in
    gives_then _ (gives_counted pps.pps_num_exp_tile_columns_minus1 (across g - 1) (last g.columns) (omega (arith, length-le-last g.columns rises_columns)) (omega arith))
    (gives_then _ (gives_counted pps.pps_num_exp_tile_rows_minus1 (down g - 1) (last g.rows) (omega (arith, length-le-last g.rows rises_rows)) (omega arith))
    (gives_then _ (gives_bounds pps.pps_tile_column_width_minus1 g.columns rises_columns wide low_columns)
    (subst (λ end. Gives (sizes_of pps.pps_tile_row_height_minus1 (down g - 1 + 1) (last g.rows) >>= λ heights. done (record { columns = bounds_of (sizes_between g.columns) (last g.columns); rows = bounds_of heights (last g.rows) }))
    (tile_size_items pps.pps_tile_row_height_minus1 (sizes_between g.rows)) end) same_tiles
    (gives_end (λ heights. record { columns = bounds_of (sizes_between g.columns) (last g.columns); rows = bounds_of heights (last g.rows) }) (gives_bounds pps.pps_tile_row_height_minus1 g.rows rises_rows high low_rows)))))

gives_tile_flags : (shape : PpsShape) → Gives (tile_flags shape.tiles) (tile_flag_items shape) 1
unfolding tile_flags fault_of
gives_tile_flags shape = elim (cases_Bool (ltb 1 (across shape.tiles * down shape.tiles))) [
  | inl several ↦
      rw several
      (gives_then _ (gives_flag pps.pps_loop_filter_across_tiles_enabled_flag shape.across_tiles)
      (gives_fixed pps.pps_rect_slice_flag 1 1 (Within (pos 1) 1 (Profile RASTER_SCAN_SLICES)) (omega arith) (omega arith) refl))
  | inr one ↦ rw one (gives_done 1)
]

few_of : (n : ℕ) → ltb 2 n ≡ false → n ≤ 2
few_of n few = elim (cases_lt 2 n) [
  | inr fine ↦ fine
  | inl more ↦ absurd (true≢false (sym (lt-ltb 2 n more) ∙ few))
]

one_of : (n : ℕ) → ltb 1 n ≡ false → n ≤ 1
one_of n one = elim (cases_lt 1 n) [
  | inr fine ↦ fine
  | inl more ↦ absurd (true≢false (sym (lt-ltb 1 n more) ∙ one))
]

limit_allows : (n : ℕ) → n < 1000 → fault_of (Below 1000 (Limit TOO_MANY_SLICES)) (pos n) ≡ None
unfolding fault_of
limit_allows n less =
    let from_zero : leb 0 n ≡ true = le-leb 0 n (omega arith) in
    let upto : ltb n 1000 ≡ true = lt-ltb n 1000 less in
    rw (from_zero, upto) refl

ctus_are : (samples log2 ctb end : ℕ) → ctb ≡ 2 ^ (log2 + 5) → end ≡ div_ceil samples ctb → end ≤ 512 → ctus_across samples log2 ≡ end
ctus_are samples log2 ctb end size is low =
    let e : div_ceil samples (2 ^ (log2 + 5)) ≡ end = ap (λ n. div_ceil samples n) (sym size) ∙ sym is in
    rw e (omega arith)

-- the groups of slices
pub groups_for : (g : Tiles) (slices : List Rect) → IsList g slices → 0 < length slices → InGroups g (ltb 2 (length slices)) slices
groups_for g slices is some = elim (cases_Bool (ltb 2 (length slices))) [
  | inl several ↦ rw several (lists_fall g slices is some)
  | inr few ↦ rw few (few_fall g slices is some (few_of (length slices) few))
]

gives_deltas : (n : ℕ) → 0 < n → Gives (deltas_flag (n - 1)) (where_so (ltb 2 n) (only_item pps.pps_tile_idx_delta_present_flag (pos 1))) (one_if (ltb 2 n))
unfolding deltas_flag
gives_deltas n some = elim (cases_Bool (ltb 2 n)) [
  | inl several ↦
      let there : ltb 1 (n - 1) ≡ true = lt-ltb _ _ (omega (arith, ltb-true 2 n several)) in
      rw (several, there) (gives_flag pps.pps_tile_idx_delta_present_flag true)
  | inr few ↦
      let none : ltb 1 (n - 1) ≡ false = le-ltb _ _ (omega (arith, few_of n few)) in
      rw (few, none) (gives_done 0)
]

set_is : (b : Bool) → is_set (one_if b) ≡ b
set_is true = refl
set_is false = refl

gives_across : (n : ℕ) (b : Bool) → 0 < n → Gives (across_flag (n - 1) true) (where_so (ltb 1 n) (only_item pps.pps_loop_filter_across_slices_enabled_flag (pos (one_if b)))) (cond (ltb 1 n) (one_if b) 0)
unfolding across_flag
gives_across n b some = elim (cases_Bool (ltb 1 n)) [
  | inl several ↦
      let there : eqb (n - 1) 0 ≡ false = ne_eqb _ _ (λ e. omega (arith, e, ltb-true 1 n several)) in
      rw (several, there) (gives_flag pps.pps_loop_filter_across_slices_enabled_flag b)
  | inr one ↦
      let n_is : n ≡ 1 = omega (arith, one_of n one) in
      let none : eqb (n - 1) 0 ≡ true = eq-eqb _ _ (omega arith) in
      rw (one, none) (gives_done 0)
]

gives_last : (n : ℕ) → n < 1000 → Gives last_slice (only_item pps.pps_num_slices_in_pic_minus1 (pos n)) n
unfolding last_slice
gives_last n few = gives_number pps.pps_num_slices_in_pic_minus1 n (Below 1000 (Limit TOO_MANY_SLICES)) (omega arith) (limit_allows n few)

gives_listed : (shape : PpsShape) → IsList shape.tiles shape.slices → 0 < length shape.slices → length shape.slices ≤ 1000 → (groups : InGroups shape.tiles (has_deltas shape) shape.slices)
    → Gives (listed_slices shape.tiles) (slice_list_items shape (groups.group ∷ groups.groups)) (Some shape.slices)
unfolding listed_slices
gives_listed shape is some few groups =
    let last_one : ℕ = length shape.slices - 1 in
    let size : length shape.slices ≡ last_one + 1 = omega arith in
    let list = given_back shape.tiles last_one (has_deltas shape) shape.slices is.grid (omega arith) size groups in
    gives_then _ (gives_last last_one (omega arith))
    (gives_then _ (gives_deltas (length shape.slices) some)
    (gives_then _ (subst (λ b. Gives (list_from shape.tiles last_one b) (list_items shape.tiles (has_deltas shape) (groups.group ∷ groups.groups)) (Some shape.slices)) (sym (set_is (has_deltas shape))) list)
    (gives_end (λ v. Some shape.slices) (gives_across (length shape.slices) shape.across_slices some))))

-- the CTU size
log2_of : (log2 : ℕ) → log2 < 3 → powers_below 32 (2 ^ (log2 + 5)) - 5 ≡ log2
unfolding powers_below
log2_of zero low = refl
log2_of (suc zero) low = refl
log2_of (suc (suc zero)) low = refl
log2_of (suc (suc (suc n))) low = absurd (omega arith)

gives_ctu : (log2 : ℕ) → log2 < 3 → Gives ctu_size (only_item pps.pps_log2_ctu_size_minus5 (pos log2)) log2
gives_ctu log2 low = gives_fixed pps.pps_log2_ctu_size_minus5 2 log2 (below 3) (omega arith) (omega arith) (below_allows log2 3 low)

pub grid_of : (shape : PpsShape) → CanBeDivided shape → IsGrid shape.tiles
grid_of shape can = (layouts_are shape.tiles shape.slices can.layout can.listable).grid

-- items that say what is said of tiles and slices: there are some, and they go through, to an end that has these
pub a_division : (shape : PpsShape) → CanBeDivided shape → (items : List Item) × Divides shape items
a_division shape can =
    let is = layouts_are shape.tiles shape.slices can.layout can.listable in
    let groups = groups_for shape.tiles shape.slices is (omega (arith, can.layout.limits.slices.0)) in
    (divided_items shape (groups.group ∷ groups.groups), record { groups = groups; same = refl })

pub division_gives : (shape : PpsShape) (items : List Item) → CanBeDivided shape → Divides shape items → Gives (divided shape.width shape.height) items (record { tiles = shape.tiles; slices = Some shape.slices })
unfolding divided slices_among
division_gives shape items can d =
    let is = layouts_are shape.tiles shape.slices can.layout can.listable in
    let limits = can.layout.limits in
    let log2 : ℕ = can.ctb.0 in
    let columns_are : ctus_across shape.width log2 ≡ last shape.tiles.columns = ctus_are shape.width log2 shape.ctb (last shape.tiles.columns) can.ctb.2 can.columns limits.columns.1 in
    let rows_are : ctus_across shape.height log2 ≡ last shape.tiles.rows = ctus_are shape.height log2 shape.ctb (last shape.tiles.rows) can.ctb.2 can.rows limits.rows.1 in
    let log2_is : powers_below 32 shape.ctb - 5 ≡ log2 = ap (λ n. powers_below 32 n - 5) can.ctb.2 ∙ log2_of log2 can.ctb.1 in
    let tiles = gives_tiles shape.tiles can.layout.columns can.layout.rows limits.columns.0 limits.rows.0 limits.columns.1 limits.rows.1 in
    let listed = gives_listed shape is (omega (arith, limits.slices.0)) limits.slices.1 d.groups in
    let all : Gives (divided shape.width shape.height) (divided_items shape (d.groups.group ∷ d.groups.groups)) (record { tiles = shape.tiles; slices = Some shape.slices })
    = gives_then _ (subst (λ n. Gives ctu_size (only_item pps.pps_log2_ctu_size_minus5 (pos n)) log2) (sym log2_is) (gives_ctu log2 can.ctb.1))
    (gives_then _ (subst (λ c. Gives (tiles_among c (ctus_across shape.height log2)) (tile_items shape) shape.tiles) (sym columns_are) (subst (λ r. Gives (tiles_among (last shape.tiles.columns) r) (tile_items shape) shape.tiles) (sym rows_are) tiles))
    (gives_then _ (gives_tile_flags shape)
    (gives_then _ (gives_fixed pps.pps_single_slice_per_subpic_flag 1 0 (below 2) (omega arith) (omega arith) (below_allows 0 2 (omega arith)))
    (gives_end (λ slices. record { tiles = shape.tiles; slices = slices }) listed)))) in
    subst (λ xs. Gives (divided shape.width shape.height) xs (record { tiles = shape.tiles; slices = Some shape.slices })) (sym d.same) all
