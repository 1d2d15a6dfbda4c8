-- The tiles and slices at the end of a picture parameter set's form are in the limits of a layout.
use Rattle.std.proofs.Common.{◌≡◌, ℕ, ℤ, zero, suc, ◌+◌, ◌-◌, ◌^◌, ◌<◌, ◌≤◌, ◌==◌, ◌&&◌, Bool, true, false, List, [], ◌∷◌, ◌++◌, length, slice_index, sum, All, Option, Some, None, refl, sym, ap, subst, ◌∙◌, arith, inl, inr, ◌⊎◌, IsFalse, eqb, append_assoc, is_some}
use Rattle.std.specs.Int.{div_ceil}
use Rattle.std.specs.Prelude.{IfSome, not}
use Rattle.std.proofs.lemmas.Bool.{cases_Bool, eqb-true, false_from_ne_true, not-false, not-true, true≢false}
use Rattle.std.proofs.lemmas.List.{append-nil}
use Rattle.std.proofs.lemmas.List.Elements.{All-cons, All-nil}
use Rattle.std.proofs.lemmas.List.Sums.{sum_by-cons}
use Rattle.vx_bits.specs.declared.list.Item.{Item}
use Rattle.vx_bits.specs.declared.rules.TheConstants.{TOO_MANY_SLICES}
use Rattle.vx_fields.specs.declared.pps.TheConstants as pps
use Rattle.vx_layout.specs.declared.rect.Rect.{Rect}
use Rattle.vx_layout.specs.Bounds.{Rises, last}
use Rattle.vx_layout.proofs.Members.{bounds_of-reach}
use Rattle.vx_table.specs.declared.rows.Cell.{Cell}
use Rattle.vx_table.specs.declared.rows.Coding.TheVariants.{Fixed}
use Rattle.vx_table.specs.declared.rows.Fault.TheVariants.{Limit}
use Rattle.vx_table.specs.declared.rows.Limits.{Limits}
use Rattle.vx_table.specs.declared.rows.Limits.TheVariants.{Below}
use Rattle.vx_table.specs.Claims.{hides_row}
use Rattle.vx_table.specs.Depends.{has}
use Rattle.vx_table.specs.EachField.{EachField, sections_pass}
use Rattle.vx_table.specs.Forms.{Form, done, has_value}
use Rattle.vx_table.specs.Loaded as loading
use Rattle.vx_table.specs.Scope.{fresh, is_set, loaded, natural}
use Rattle.vx_table.specs.Parts.{sections_form}
use Rattle.vx_table.specs.Shown.{shown_items}
use Rattle.vx_table.specs.Spelling.{item_of, items_along}
use Rattle.vx_table.specs.Values.{Follows, IsValueOf, to_end, through}
use Rattle.vx_table.proofs.Joined.{parted}
use Rattle.vx_table.proofs.Loading.{number_of_last, number_of_shown}
use Rattle.vx_pps.specs.declared.partition.Partition.{Partition}
use Rattle.vx_pps.specs.declared.tiles.Tiles.{Tiles}
use Rattle.vx_pps.specs.Partition.{across_flag, golomb_below, ctu_size, ctus_across, deltas_flag, divided, fixed_form, flag, impossible_flag, last_slice, listed_slices, partition, sizes_of, slices_among, subpicture_slices, tile_flags, tiles_among, tiles_of, undivided}
use Rattle.vx_pps.specs.Pps.{IsPps, tile_columns_of, before_tiles, is_partitioned, partition_of, tile_rows_of, slice_list_of, after_slices}
use Rattle.vx_pps.specs.laws.Sets.{AreTileBounds, AreSlices, AreTilesInLimits, IsWide, ReadSlicesAreListable, SetsTellPartitions, TellsPartition, TilesAreInLimits, is_single}
use Rattle.vx_pps.specs.Slices.{below, list_from, sizes_from}
use Rattle.vx_pps.specs.Tiles.{IsGrid}
use Rattle.vx_pps.specs.Written.{Gives, only_item}
use Rattle.vx_pps.proofs.Cutting.{Parts, at_done, cut_parts, each_weaker, gives_parts, none_shown, number_low, front_loads, numbers_before, one_has, only_middle, sections_unshown}
use Rattle.vx_pps.proofs.Division.{IsBetween, each_among, each_tile_flags, each_tiles}
use Rattle.vx_pps.proofs.Ended.{list_end, one_inside}
use Rattle.vx_pps.proofs.Listable.{named_listable}
use Rattle.vx_pps.proofs.Named.{Named, list_named}
use Rattle.vx_pps.proofs.Ranges.{below_bound, fixed_range, golomb_range, limited_bound}
use Rattle.vx_pps.proofs.Sizing.{sizes_grid}
use Rattle.vx_pps.proofs.Testing.{ctb_size, ctb_size_unshown, single_slices, single_slices_unshown, sizes_are}
use Rattle.vx_pps.proofs.Told.{partition_is}
use Rattle.vx_pps.proofs.Wide.{front_wide}

-- ---- tiles

counted_end : (of bound : ℕ) {w : List ℤ} {n : ℕ} → Follows (golomb_below of bound) w n → n < bound
unfolding golomb_below
counted_end of bound (through {v} is to_end) = below_bound bound (natural v) (golomb_range (below bound) v is.code is.range)

-- explicit sizes that were spelled, behind others
record NewSizes (count left : ℕ) (taken all : List ℕ) : Type 0 where
  pub sizes : List ℕ
  pub behind : all ≡ taken ++ sizes
  pub so_many : length sizes ≡ count
  pub some : All (λ size. 1 ≤ size) sizes
  pub fit : sum sizes ≤ left

sizes_end : (of count left : ℕ) (taken : List ℕ) {w : List ℤ} {all : List ℕ} → Follows (sizes_from of count left taken) w all → NewSizes count left taken all
sizes_end of zero left taken to_end = record { sizes = []; behind = sym (append-nil taken); so_many = refl; some = All-nil (λ size. 1 ≤ size); fit = omega arith }
sizes_end of (suc count) left taken (through {v} is more) =
    let size : ℕ = natural v + 1 in
    let fits = below_bound left (natural v) (golomb_range (below left) v is.code is.range) in
    let rest = sizes_end of count (left - size) (taken ++ size ∷ []) more in
    record {
      sizes = size ∷ rest.sizes;
      behind = rest.behind ∙ append_assoc taken (size ∷ []) rest.sizes;
      so_many = omega (arith, rest.so_many);
      some = All-cons (λ n. 1 ≤ n) size rest.sizes (omega arith) rest.some;
      fit = omega (arith, fits, rest.fit, sum_by-cons (λ n. n) size rest.sizes);
    }

explicit_end : (of count total : ℕ) {w : List ℤ} {all : List ℕ} → Follows (sizes_of of count total) w all → (length all ≡ count) × All (λ size. 1 ≤ size) all × (sum all ≤ total)
unfolding sizes_of
explicit_end of count total follows =
    let new = sizes_end of count total [] follows in
    rw new.behind (new.so_many, new.some, new.fit)

-- ---- the parts of what is said of tiles and slices

-- tiles in the limits of a layout, of so many CTUs across and down
record TilesReach (columns rows : ℕ) (g : Tiles) : Type 0 where
  pub limits : AreTilesInLimits g
  pub across : last g.columns ≡ columns
  pub down : last g.rows ≡ rows

tiles_reach : (widths heights : List ℕ) (columns rows : ℕ) → 1 ≤ length widths → All (λ size. 1 ≤ size) widths → sum widths ≤ columns → 1 ≤ columns → columns ≤ 512
    → 1 ≤ length heights → All (λ size. 1 ≤ size) heights → sum heights ≤ rows → 1 ≤ rows → rows ≤ 512 → TilesReach columns rows (tiles_of widths columns heights rows)
tiles_reach widths heights columns rows some_widths wide fit_columns across most_columns some_heights high fit_rows down most_rows =
    let x = bounds_of-reach widths columns some_widths wide across fit_columns in
    let y = bounds_of-reach heights rows some_heights high down fit_rows in
    record {
      limits = record {
        grid = sizes_grid widths heights columns rows some_widths wide fit_columns across most_columns some_heights high fit_rows down most_rows;
        columns = (x.0, omega (arith, x.1));
        rows = (y.0, omega (arith, y.1));
      };
      across = x.1;
      down = y.1;
    }

at_end : {A : Type 0} {a end : A} {w : List ℤ} → Follows (done a) w end → a ≡ end
at_end to_end = refl

tiles_end : (columns rows : ℕ) {w : List ℤ} {g : Tiles} → columns ≤ 512 → rows ≤ 512 → Follows (tiles_among columns rows) w g → TilesReach columns rows g
unfolding tiles_among
tiles_end columns rows {g} most_columns most_rows follows =
    let one = parted (golomb_below pps.pps_num_exp_tile_columns_minus1 columns) _ follows in
    let two = parted (golomb_below pps.pps_num_exp_tile_rows_minus1 rows) _ one.second in
    let three = parted (sizes_of pps.pps_tile_column_width_minus1 (one.mid + 1) columns) _ two.second in
    let four = parted (sizes_of pps.pps_tile_row_height_minus1 (two.mid + 1) rows) _ three.second in
    let column = counted_end pps.pps_num_exp_tile_columns_minus1 columns one.first in
    let row = counted_end pps.pps_num_exp_tile_rows_minus1 rows two.first in
    let widths = explicit_end pps.pps_tile_column_width_minus1 (one.mid + 1) columns three.first in
    let heights = explicit_end pps.pps_tile_row_height_minus1 (two.mid + 1) rows four.first in
    subst (TilesReach columns rows) (at_end four.second)
    (tiles_reach three.mid four.mid columns rows (omega (arith, widths.0)) widths.1 widths.2 (omega (arith, column)) most_columns (omega (arith, heights.0)) heights.1 heights.2 (omega (arith, row)) most_rows)

fixed_along : (of bits : ℕ) (limits : Limits ℕ) {w : List ℤ} {items : List Item} {n : ℕ} → Follows (fixed_form of bits limits) w n → items_along (fixed_form of bits limits) w ≡ items → (v : ℤ) × (items ≡ only_item of v) × (natural v ≡ n) × IsValueOf (record { field = of; kept = false; coding = Fixed bits; limits = limits }) v
unfolding fixed_form item_of has_value
fixed_along of bits limits (through {v} is to_end) given = (v, sym given, refl, is)

-- the item of a number of u(n), and its number
fixed_item : (of bits : ℕ) (limits : Limits ℕ) {items : List Item} {n : ℕ} → Gives (fixed_form of bits limits) items n → (v : ℤ) × (items ≡ only_item of v) × (natural v ≡ n) × IsValueOf (record { field = of; kept = false; coding = Fixed bits; limits = limits }) v
unfolding fixed_form
fixed_item of bits limits gives = fixed_along of bits limits gives.follows gives.given

last_end : {w : List ℤ} {n : ℕ} → Follows last_slice w n → n < 1000
unfolding last_slice
last_end (through {v} is to_end) = limited_bound 1000 (natural v) (Limit TOO_MANY_SLICES) (golomb_range (Below 1000 (Limit TOO_MANY_SLICES)) v is.code is.range)

cases_option : {A : Type 0} (o : Option A) → (o ≡ None) ⊎ ((a : A) × (o ≡ Some a))
cases_option None = inl refl
cases_option (Some a) = inr (a, refl)

no_flag : (of : ℕ) {w : List ℤ} {n : ℕ} → Follows (impossible_flag of) w n → ⊥
unfolding fixed_form
no_flag of (through {v} is to_end) = let none = below_bound 0 (natural v) (fixed_range 1 (below 0) v (omega arith) is.code is.range) in omega (arith, none)

-- a list that leads out of the tiles has no end
none_end : (g : Tiles) (last : ℕ) (deltas : Bool) {v w : List ℤ} {n : ℕ} → IsGrid g → Follows (list_from g last deltas) v None → Follows (across_flag last false) w n → ⊥
unfolding across_flag
none_end g last deltas {v} grid list flag_ = elim (cases_Bool (eqb last 0)) [
  | inl one ↦ one_inside g deltas grid (subst (λ k. Follows (list_from g k deltas) v None) (eqb-true _ _ one) list)
  | inr several ↦ no_flag pps.pps_loop_filter_across_slices_enabled_flag (rw several at flag_)
]

-- the slices, unless each subpicture is one
SlicesAre : Tiles → ℕ → Option (List Rect) → Type 0
SlicesAre g single slices = (is_some slices ≡ not (is_set single)) × IfSome slices AreSlices × IfSome slices (Named g)

listed_end : (g : Tiles) {w : List ℤ} {slices : Option (List Rect)} → AreTilesInLimits g → Follows (listed_slices g) w slices → (all : List Rect) × (slices ≡ Some all) × AreSlices all × Named g all
unfolding listed_slices
listed_end g {w} {slices} limits follows =
    let one = parted last_slice _ follows in
    let two = parted (deltas_flag one.mid) _ one.second in
    let three = parted (list_from g one.mid (is_set two.mid)) _ two.second in
    let four = parted (across_flag one.mid (is_some three.mid)) _ three.second in
    let same : three.mid ≡ slices = at_end four.second in
    let few = last_end one.first in
    elim (cases_option three.mid) [
      | inl none ↦ absurd (none_end g one.mid (is_set two.mid) limits.grid (subst (λ s. Follows (list_from g one.mid (is_set two.mid)) three.front s) none three.first) (subst (λ s. Follows (across_flag one.mid (is_some s)) four.front four.mid) none four.first))
      | inr (all, is) ↦
          let list : Follows (list_from g one.mid (is_set two.mid)) three.front (Some all) = subst (λ s. Follows (list_from g one.mid (is_set two.mid)) three.front s) is three.first in
          let ended = list_end g one.mid (is_set two.mid) limits.grid limits.columns.0 limits.rows.0 list in (
            all,
            sym same ∙ is,
            record { some = ended.0; few = omega (arith, few, ended.1.few); each = ended.1.each },
            list_named g one.mid (is_set two.mid) limits.grid limits.columns.0 limits.rows.0 list,
          )
    ]

slices_are : (g : Tiles) (single : ℕ) {w : List ℤ} {slices : Option (List Rect)} → AreTilesInLimits g → Follows (slices_among g single) w slices → SlicesAre g single slices
unfolding slices_among subpicture_slices SlicesAre
slices_are g single {w} {slices} limits follows = elim (cases_Bool (is_set single)) [
  | inl each ↦
      let one = parted (flag pps.pps_loop_filter_across_slices_enabled_flag) (λ v. done None) (rw each at follows) in
      let none : None ≡ slices = at_end one.second in
      rw each (subst (λ s. (is_some s ≡ false) × IfSome s AreSlices × IfSome s (Named g)) none (refl, tt, tt))
  | inr listed ↦
      let end = listed_end g limits (rw listed at follows) in
      rw listed (subst (λ s. (is_some s ≡ true) × IfSome s AreSlices × IfSome s (Named g)) (sym end.1) (refl, end.2, end.3))
]

-- ---- the numbers of two fields that tiles and slices alone have

-- no field between two others is this one
not_between : (of low high : ℕ) (cell : Cell ℕ) → (low ≤ of → of ≤ high → ⊥) → IsBetween low high cell → IsFalse (has (of ∷ []) cell.field)
not_between of low high cell outside is = false_from_ne_true _ (λ h. let same = one_has of cell.field h in outside (subst (λ n. low ≤ n) same is.0) (subst (λ n. n ≤ high) same is.1))

none_of : {A : Type 0} (of low high : ℕ) (form : Form A) {items : List Item} {end : A} → (low ≤ of → of ≤ high → ⊥) → EachField (IsBetween low high) form → Gives form items end → shown_items (of ∷ []) items ≡ []
none_of of low high form outside each gives =
    ap (λ xs. shown_items (of ∷ []) xs) (sym gives.given)
    ∙ none_shown (of ∷ []) (each_weaker (IsBetween low high) (λ cell. IsFalse (has (of ∷ []) cell.field)) form (λ cell is. not_between of low high cell outside is) each) gives.follows

shown_item : (names : List ℕ) (of : ℕ) (v : ℤ) → has names of ≡ true → shown_items names (only_item of v) ≡ only_item of v
shown_item names of v is = rw is refl

-- its number, where it is shown once among the items of tiles and slices, and not beside them
told : {items : List Item} {end : Partition} (p : Parts items end) (of : ℕ) (v : ℤ) → of < 1024 → has (of ∷ []) of ≡ true → sections_pass (hides_row (of ∷ [])) before_tiles ≡ true
    → sections_pass (hides_row (of ∷ [])) after_slices ≡ true → shown_items (of ∷ []) p.division ≡ only_item of v → loading.number items of ≡ natural v
told {items} p of v low is in_front in_tools shown =
    let names : List ℕ = of ∷ [] in
    let no_front : shown_items names p.front_items ≡ [] = ap (λ xs. shown_items names xs) (sym p.first.given) ∙ none_shown names (sections_unshown names before_tiles fresh in_front) p.first.follows in
    let no_tools : shown_items names p.tool_items ≡ [] = ap (λ xs. shown_items names xs) (sym p.third.given) ∙ none_shown names (sections_unshown names after_slices p.scope in_tools) p.third.follows in
    let only : shown_items names items ≡ only_item of v = ap (λ xs. shown_items names xs) p.all ∙ only_middle names p.front_items [] [] p.division p.tool_items no_front refl refl no_tools ∙ shown in
    number_of_shown names of items is ∙ ap (λ xs. loading.number xs of) only ∙ number_of_last of v [] [] low (All-nil (λ item. (item.field == of) ≡ false))

-- ---- all of it

-- what is said of tiles and slices, by its parts
record Divided (width height : ℕ) (items : List Item) (end : Partition) : Type 0 where
  pub log2 : ℤ
  pub single : ℤ
  pub low : natural log2 < 3
  pub tiles : TilesReach (ctus_across width (natural log2)) (ctus_across height (natural log2)) end.tiles
  pub slices : SlicesAre end.tiles (natural single) end.slices
  pub ctb_shown : shown_items ctb_size items ≡ only_item pps.pps_log2_ctu_size_minus5 log2
  pub single_shown : shown_items single_slices items ≡ only_item pps.pps_single_slice_per_subpic_flag single

divided_parts : (width height : ℕ) {items : List Item} {end : Partition} → Gives (divided width height) items end → Divided width height items end
unfolding divided SlicesAre fresh
divided_parts width height {items} {end} gives =
    let one = gives_parts ctu_size _ gives in
    let two = gives_parts (tiles_among (ctus_across width one.0) (ctus_across height one.0)) _ one.4 in
    let three = gives_parts (tile_flags two.0) _ two.4 in
    let four = gives_parts (flag pps.pps_single_slice_per_subpic_flag) _ three.4 in
    let five = gives_parts (slices_among two.0 four.0) _ four.4 in
    let behind = at_done five.4 in
    let log2 = fixed_item pps.pps_log2_ctu_size_minus5 2 (below 3) one.3 in
    let single_is = fixed_item pps.pps_single_slice_per_subpic_flag 1 (below 2) four.3 in
    let low : one.0 < 3 = subst (λ n. n < 3) log2.2 (below_bound 3 (natural log2.0) (fixed_range 2 (below 3) log2.0 (omega arith) log2.3.code log2.3.range)) in
    let tiles = tiles_end (ctus_across width one.0) (ctus_across height one.0) (omega arith) (omega arith) two.3.follows in
    let slices = slices_are two.0 four.0 tiles.limits five.3.follows in
    let all : items ≡ one.1 ++ (two.1 ++ (three.1 ++ (four.1 ++ four.2))) = one.5 ∙ ap (λ xs. one.1 ++ xs) (two.5 ∙ ap (λ xs. two.1 ++ xs) (three.5 ∙ ap (λ xs. three.1 ++ xs) four.5)) in
    let last_items : four.2 ≡ five.1 = five.5 ∙ ap (λ xs. five.1 ++ xs) behind.0 ∙ append-nil five.1 in
    let among = each_among two.0 four.0 in
    let no_single : shown_items single_slices four.2 ≡ [] = ap (λ xs. shown_items single_slices xs) last_items ∙ none_of pps.pps_single_slice_per_subpic_flag 425 432 (slices_among two.0 four.0) (λ a b. omega (arith, a, b)) among five.3 in
    let no_ctb : shown_items ctb_size four.2 ≡ [] = ap (λ xs. shown_items ctb_size xs) last_items ∙ none_of pps.pps_log2_ctu_size_minus5 425 432 (slices_among two.0 four.0) (λ a b. omega (arith, a, b)) among five.3 in
    let rest_ctb : shown_items ctb_size (two.1 ++ (three.1 ++ (four.1 ++ four.2))) ≡ [] =
    only_middle ctb_size two.1 three.1 [] four.1 four.2
    (none_of pps.pps_log2_ctu_size_minus5 418 421 (tiles_among (ctus_across width one.0) (ctus_across height one.0)) (λ a b. omega (arith, a, b)) (each_tiles _ _) two.3)
    (none_of pps.pps_log2_ctu_size_minus5 422 423 (tile_flags two.0) (λ a b. omega (arith, a, b)) (each_tile_flags two.0) three.3) refl no_ctb
    ∙ ap (λ xs. shown_items ctb_size xs) single_is.1 in
    let last_end : record { tiles = two.0; slices = five.0 } ≡ end = behind.1 in
    let log2_is : one.0 ≡ natural log2.0 = sym log2.2 in
    let at : (n : ℕ) → one.0 ≡ n → TilesReach (ctus_across width n) (ctus_across height n) two.0 = λ n e. subst (λ m. TilesReach (ctus_across width m) (ctus_across height m) two.0) e tiles in
    record {
      log2 = log2.0;
      single = single_is.0;
      low = subst (λ n. n < 3) log2_is low;
      tiles = subst (λ (q : Partition). TilesReach (ctus_across width (natural log2.0)) (ctus_across height (natural log2.0)) q.tiles) last_end (at (natural log2.0) log2_is);
      slices = subst (λ (q : Partition). SlicesAre q.tiles (natural single_is.0) q.slices) last_end (subst (λ n. SlicesAre two.0 n five.0) (sym single_is.2) slices);
      ctb_shown = ap (λ xs. shown_items ctb_size xs) all ∙ only_middle ctb_size [] [] [] one.1 (two.1 ++ (three.1 ++ (four.1 ++ four.2))) refl refl refl rest_ctb ∙ ap (λ xs. shown_items ctb_size xs) log2.1 ∙ shown_item ctb_size pps.pps_log2_ctu_size_minus5 log2.0 refl;
      single_shown = ap (λ xs. shown_items single_slices xs) all ∙ only_middle single_slices one.1 two.1 three.1 four.1 four.2
          (ap (λ xs. shown_items single_slices xs) log2.1)
          (none_of pps.pps_single_slice_per_subpic_flag 418 421 (tiles_among (ctus_across width one.0) (ctus_across height one.0)) (λ a b. omega (arith, a, b)) (each_tiles _ _) two.3)
          (none_of pps.pps_single_slice_per_subpic_flag 422 423 (tile_flags two.0) (λ a b. omega (arith, a, b)) (each_tile_flags two.0) three.3)
          no_single
          ∙ ap (λ xs. shown_items single_slices xs) single_is.1 ∙ shown_item single_slices pps.pps_single_slice_per_subpic_flag single_is.0 refl;
    }

-- a picture has no more CTUs than its size has samples for
ctus_low : (samples log2 : ℕ) → samples < 16385 → log2 < 3 → ctus_across samples log2 ≡ div_ceil samples (2 ^ (log2 + 5))
ctus_low samples zero low less = omega (arith, low)
ctus_low samples (suc zero) low less = omega (arith, low)
ctus_low samples (suc (suc zero)) low less = omega (arith, low)
ctus_low samples (suc (suc (suc n))) low less = absurd (omega (arith, less))

reach_bounds : (bounds : List ℕ) (n : ℕ) → 2 ≤ length bounds → Rises bounds → last bounds ≤ 512 → last bounds ≡ n → AreTileBounds bounds n
reach_bounds bounds n several rises low all = record { several = several; rises = rises; all = all; low = omega (arith, low, all) }

partitioned : (items : List Item) (end : Partition) → IsPps items end → is_partitioned items ≡ true
    → (p : Parts items end) × Divided (loading.number items pps.pps_pic_width_in_luma_samples) (loading.number items pps.pps_pic_height_in_luma_samples) p.division end
unfolding partition fresh
partitioned items end is whole =
    let p = cut_parts items end is in
    let same : slice_index p.scope pps.pps_no_pic_partition_flag ≡ loading.number items pps.pps_no_pic_partition_flag = numbers_before p pps.pps_no_pic_partition_flag refl refl in
    let none : is_set (slice_index p.scope pps.pps_no_pic_partition_flag) ≡ false = rw same (not-true (is_set (loading.number items pps.pps_no_pic_partition_flag)) whole) in
    let width : slice_index p.scope pps.pps_pic_width_in_luma_samples ≡ loading.number items pps.pps_pic_width_in_luma_samples = numbers_before p pps.pps_pic_width_in_luma_samples refl refl in
    let height : slice_index p.scope pps.pps_pic_height_in_luma_samples ≡ loading.number items pps.pps_pic_height_in_luma_samples = numbers_before p pps.pps_pic_height_in_luma_samples refl refl in (
      p,
      subst (λ w. Divided w (loading.number items pps.pps_pic_height_in_luma_samples) p.division end) width
          (subst (λ h. Divided (slice_index p.scope pps.pps_pic_width_in_luma_samples) h p.division end) height
          (divided_parts (slice_index p.scope pps.pps_pic_width_in_luma_samples) (slice_index p.scope pps.pps_pic_height_in_luma_samples) (rw none at p.second))),
    )

unpartitioned : (items : List Item) (end : Partition) → IsPps items end → is_partitioned items ≡ false → end ≡ undivided
unfolding partition fresh
unpartitioned items end is whole =
    let p = cut_parts items end is in
    let same : slice_index p.scope pps.pps_no_pic_partition_flag ≡ loading.number items pps.pps_no_pic_partition_flag = numbers_before p pps.pps_no_pic_partition_flag refl refl in
    let set : is_set (slice_index p.scope pps.pps_no_pic_partition_flag) ≡ true = rw same (not-false (is_set (loading.number items pps.pps_no_pic_partition_flag)) whole) in
    sym (at_done (rw set at p.second)).1

pub tiles_in_limits : TilesAreInLimits
tiles_in_limits items end is whole = (partitioned items end is whole).1.tiles.limits

wide : (items : List Item) (end : Partition) → IsPps items end → IsWide (loading.number items pps.pps_pic_width_in_luma_samples) × IsWide (loading.number items pps.pps_pic_height_in_luma_samples)
unfolding fresh
wide items end is =
    let p = cut_parts items end is in
    let sizes = front_wide p.first.follows in
    let width : slice_index (loaded fresh (items_along (sections_form before_tiles fresh) p.first.values)) pps.pps_pic_width_in_luma_samples ≡ loading.number items pps.pps_pic_width_in_luma_samples =
    ap (λ xs. slice_index (loaded fresh xs) pps.pps_pic_width_in_luma_samples) p.first.given ∙ (front_loads p).same pps.pps_pic_width_in_luma_samples refl ∙ numbers_before p pps.pps_pic_width_in_luma_samples refl refl in
    let height : slice_index (loaded fresh (items_along (sections_form before_tiles fresh) p.first.values)) pps.pps_pic_height_in_luma_samples ≡ loading.number items pps.pps_pic_height_in_luma_samples =
    ap (λ xs. slice_index (loaded fresh xs) pps.pps_pic_height_in_luma_samples) p.first.given ∙ (front_loads p).same pps.pps_pic_height_in_luma_samples refl ∙ numbers_before p pps.pps_pic_height_in_luma_samples refl refl in
    (subst IsWide width sizes.0, subst IsWide height sizes.1)

tells_parts : (items : List Item) (end : Partition) → IsPps items end → partition_of items ≡ end → is_partitioned items ≡ true → TellsPartition items
unfolding fresh SlicesAre
tells_parts items end is same whole =
    let q = partitioned items end is whole in
    let p = q.0 in
    let d = q.1 in
    let ctb : loading.number items pps.pps_log2_ctu_size_minus5 ≡ natural d.log2 = told p pps.pps_log2_ctu_size_minus5 d.log2 (omega arith) refl ctb_size_unshown.0 ctb_size_unshown.1 d.ctb_shown in
    let each : loading.number items pps.pps_single_slice_per_subpic_flag ≡ natural d.single = told p pps.pps_single_slice_per_subpic_flag d.single (omega arith) refl single_slices_unshown.0 single_slices_unshown.1 d.single_shown in
    let width = number_low p pps.pps_pic_width_in_luma_samples 16385 (omega arith) sizes_are.0.0 sizes_are.0.1 (λ a b. omega (arith, a, b)) in
    let height = number_low p pps.pps_pic_height_in_luma_samples 16385 (omega arith) sizes_are.1.0 sizes_are.1.1 (λ a b. omega (arith, a, b)) in
    let columns = ctus_low (loading.number items pps.pps_pic_width_in_luma_samples) (natural d.log2) width d.low in
    let rows = ctus_low (loading.number items pps.pps_pic_height_in_luma_samples) (natural d.log2) height d.low in
    let limits = d.tiles.limits in
    let across : AreTileBounds end.tiles.columns (div_ceil (loading.number items pps.pps_pic_width_in_luma_samples) (2 ^ (natural d.log2 + 5))) =
    reach_bounds end.tiles.columns _ limits.grid.columns.0 limits.columns.0 limits.columns.1 (d.tiles.across ∙ columns) in
    let down : AreTileBounds end.tiles.rows (div_ceil (loading.number items pps.pps_pic_height_in_luma_samples) (2 ^ (natural d.log2 + 5))) =
    reach_bounds end.tiles.rows _ limits.grid.rows.0 limits.rows.0 limits.rows.1 (d.tiles.down ∙ rows) in
    record {
      width = (wide items end is).0;
      height = (wide items end is).1;
      ctb = λ _. subst (λ n. n < 3) (sym ctb) d.low;
      columns = λ _. subst (λ n. AreTileBounds (tile_columns_of items) (div_ceil (loading.number items pps.pps_pic_width_in_luma_samples) (2 ^ (n + 5)))) (sym ctb)
          (subst (λ (q : Partition). AreTileBounds q.tiles.columns (div_ceil (loading.number items pps.pps_pic_width_in_luma_samples) (2 ^ (natural d.log2 + 5)))) (sym same) across);
      rows = λ _. subst (λ n. AreTileBounds (tile_rows_of items) (div_ceil (loading.number items pps.pps_pic_height_in_luma_samples) (2 ^ (n + 5)))) (sym ctb)
          (subst (λ (q : Partition). AreTileBounds q.tiles.rows (div_ceil (loading.number items pps.pps_pic_height_in_luma_samples) (2 ^ (natural d.log2 + 5)))) (sym same) down);
      no_tiles = λ not_whole. absurd (true≢false (sym whole ∙ not_whole));
      named = subst (λ (q : Partition). is_some q.slices ≡ (is_partitioned items && not (is_single items))) (sym same)
          (d.slices.0 ∙ ap (λ n. not (is_set n)) (sym each) ∙ ap (λ b. b && not (is_single items)) (sym whole));
      slices = subst (λ (q : Partition). IfSome q.slices AreSlices) (sym same) d.slices.1;
    }

tells_none : (items : List Item) (end : Partition) → IsPps items end → partition_of items ≡ end → is_partitioned items ≡ false → TellsPartition items
tells_none items end is same whole =
    let none : partition_of items ≡ undivided = same ∙ unpartitioned items end is whole in
    record {
      width = (wide items end is).0;
      height = (wide items end is).1;
      ctb = λ there. absurd (true≢false (sym there ∙ whole));
      columns = λ there. absurd (true≢false (sym there ∙ whole));
      rows = λ there. absurd (true≢false (sym there ∙ whole));
      no_tiles = λ _. subst (λ (q : Partition). (q.tiles.columns ≡ []) × (q.tiles.rows ≡ [])) (sym none) (refl, refl);
      named = subst (λ (q : Partition). is_some q.slices ≡ (is_partitioned items && not (is_single items))) (sym none) (sym (ap (λ b. b && not (is_single items)) whole));
      slices = subst (λ (q : Partition). IfSome q.slices AreSlices) (sym none) tt;
    }

pub tells_partitions : SetsTellPartitions
tells_partitions items is =
    let same = partition_is items is.end is.set in
    elim (cases_Bool (is_partitioned items)) [
      | inl whole ↦ tells_parts items is.end is.set same whole
      | inr none ↦ tells_none items is.end is.set same none
    ]

-- ---- slices that a list named

none_listed : (items : List Item) (slices : List Rect) → TellsPartition items → is_partitioned items ≡ false → slice_list_of items ≡ Some slices → ⊥
none_listed items slices told_ none is =
    true≢false (ap is_some (sym is) ∙ told_.named ∙ ap (λ b. b && not (is_single items)) none)

pub listable : ReadSlicesAreListable
unfolding SlicesAre
listable items slices is named once =
    let same = partition_is items is.end is.set in
    let tells = tells_partitions items is in
    elim (cases_Bool (is_partitioned items)) [
      | inr none ↦ absurd (none_listed items slices tells none named)
      | inl whole ↦
          let d = (partitioned items is.end is.set whole).1 in
          let limits : AreTilesInLimits (partition_of items).tiles = subst (λ (q : Partition). AreTilesInLimits q.tiles) (sym same) d.tiles.limits in
          let groups : IfSome (slice_list_of items) (Named (partition_of items).tiles) = subst (λ (q : Partition). IfSome q.slices (Named q.tiles)) (sym same) d.slices.2 in
          named_listable (partition_of items).tiles slices (record { grid = limits.grid; columns = limits.columns.0; rows = limits.rows.0 }) (rw named at groups) (rw named at tells.slices).each once
    ]
