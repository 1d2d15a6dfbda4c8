-- No spelling of a set is long: tiles and slices are at most so many, and so are the bits of its tables.
use Rattle.std.proofs.Common.{◌≡◌, ℕ, ℤ, zero, suc, ◌+◌, ◌-◌, ◌*◌, ◌<◌, ◌≤◌, ◌==◌, Bool, true, false, cond, List, [], ◌∷◌, ◌++◌, length, refl, ap, arith}
use Rattle.std.specs.Prelude.{is_some, nat_lt}
use Rattle.std.proofs.Math.Nat.{suc-mul}
use Rattle.std.proofs.lemmas.List.{length-append}
use Rattle.vx_bits.specs.declared.rules.TheConstants.{TOO_MANY_SLICES}
use Rattle.vx_bits.proofs.Bits.{length-bits_of}
use Rattle.vx_fields.specs.declared.pps.TheConstants as pps
use Rattle.vx_layout.specs.declared.rect.Rect.{Rect}
use Rattle.vx_layout.specs.Bounds.{repeated_sizes}
use Rattle.vx_table.specs.declared.rows.Cell.{Cell}
use Rattle.vx_table.specs.declared.rows.Fault.TheVariants.{Limit}
use Rattle.vx_table.specs.declared.rows.Limits.{Limits}
use Rattle.vx_table.specs.declared.rows.Limits.TheVariants.{Below}
use Rattle.vx_table.specs.Forms.{Form, done, field, ◌>>=◌, has_value}
use Rattle.vx_table.specs.Parts.{sections_form}
use Rattle.vx_table.specs.Scope.{fresh, is_set, natural}
use Rattle.vx_table.specs.laws.Sizes.{EachSpelling, Bound, IsWithin, greatest_value, greatest_coded, greatest_ranged, presence_keeps, row_keeps, code_bits, most_turns, part_bits, table_bits, sections_bits}
use Rattle.vx_table.specs.Values.{IsValueOf}
use Rattle.vx_table.proofs.Sizes.{spelling_done, spelling_field, spelling_then, spelling_weaker, coded_bits, coded_most, fresh_within, sections_are_short}
use Rattle.vx_pps.specs.declared.list.Listed.{Listed}
use Rattle.vx_pps.specs.declared.tiles.Tiles.{Tiles}
use Rattle.vx_pps.specs.Groups.{spells_height, strips}
use Rattle.vx_pps.specs.Partition.{across_flag, golomb_below, ctu_size, ctus_across, deltas_flag, divided, fixed_form, flag, impossible_flag, last_slice, listed_slices, partition, sizes_of, slices_among, subpicture_slices, tile_flags, tiles_among, tiles_of, undivided}
use Rattle.vx_pps.specs.Pps.{before_tiles, partition_at, pps_form, after_slices}
use Rattle.vx_pps.specs.laws.Sets.{SpellingIsShort}
use Rattle.vx_pps.specs.Slices.{all_slices, below, delta, delta_cell, goes_on, height_in_tiles, list_from, may_be_cut, none_listed, golomb_form, tile_size_form, sizes_from, slices_from_tile, slices_in_tile, spells_delta, strip_height, strips_from, tile_after, turn, turns_from, width_in_tiles}
use Rattle.vx_pps.specs.Tiles.{across, block, column, down, row, tile, tile_behind}
use Rattle.vx_pps.proofs.Ranges.{below_bound, golomb_range, limited_bound}

-- ---- at most so many bits, and something of the end

abbrev Few : {A : Type 0} → ℕ → (A → Type 0) → Form A → Type 0
Few n W form = EachSpelling form (λ size a. (size ≤ n) × W a)

abbrev Any : {A : Type 0} → A → Type 0
Any a = Unit {0}

few_done : {A : Type 0} (a : A) (n : ℕ) (W : A → Type 0) → W a → Few n W (done a)
few_done a n W w = spelling_done a (λ size a. (size ≤ n) × W a) (omega arith, w)

few_then : {A B : Type 0} (form : Form A) (next : A → Form B) (n m : ℕ) (V : A → Type 0) (W : B → Type 0) → Few n V form → ((a : A) → V a → Few m W (next a)) → Few (n + m) W (form >>= next)
few_then form next n m V W first more =
    spelling_then form next (λ size a. (size ≤ n) × V a) (λ size b. (size ≤ n + m) × W b) first
    (λ size a is. spelling_weaker (next a) (λ k b. (k ≤ m) × W b) (λ k b. (size + k ≤ n + m) × W b) (more a is.1)
    (λ k b few. (let one = is.0 in let other = few.0 in omega (arith, one, other), few.1)))

fewer : {A : Type 0} (form : Form A) (n m : ℕ) (V W : A → Type 0) → n ≤ m → ((a : A) → V a → W a) → Few n V form → Few m W form
fewer form n m V W less weaker is = spelling_weaker form (λ k a. (k ≤ n) × V a) (λ k a. (k ≤ m) × W a) is (λ k a few. (let one = few.0 in omega (arith, less, one), weaker a few.1))

either : {A : Type 0} (b : Bool) (one other : Form A) (Q : ℕ → A → Type 0) → EachSpelling one Q → EachSpelling other Q → EachSpelling (cond b one other) Q
either true one other Q is_one is_other = is_one
either false one other Q is_one is_other = is_other

-- a field and what its number comes to
one_field : {A : Type 0} (cell : Cell ℕ) (end : ℤ → A) (W : A → Type 0) → ((v : ℤ) → IsValueOf cell v → W (end v)) → Few (coded_bits cell.coding) W (field cell (λ v. done (end v)))
one_field cell end W w =
    spelling_field cell (λ v. done (end v)) (λ size a. (size ≤ coded_bits cell.coding) × W a)
    (λ place v is. spelling_done (end v) _ (let few = coded_most cell.coding place v in omega (arith, few), w v is))

number_few : (of : ℕ) (limits : Limits ℕ) → Few 63 Any (golomb_form of limits)
number_few of limits = one_field _ _ Any (λ v is. tt)

number_below : (of bound : ℕ) → Few 63 (λ n. n < bound) (golomb_form of (below bound))
number_below of bound = one_field _ _ (λ n. n < bound) (λ v is. below_bound bound (natural v) (golomb_range (below bound) v is.code is.range))

fixed_few : (of bits : ℕ) (limits : Limits ℕ) → Few bits Any (fixed_form of bits limits)
unfolding fixed_form
fixed_few of bits limits = one_field _ _ Any (λ v is. tt)

-- ---- tiles

sizes_few : (of count left : ℕ) (sizes : List ℕ) → Few (count * 63) Any (sizes_from of count left sizes)
sizes_few of zero left sizes = few_done sizes 0 Any tt
sizes_few of (suc more) left sizes =
    let all : suc more * 63 ≡ more * 63 + 63 = suc-mul more 63 in
    let size : Few 63 Any (tile_size_form of left) = few_then (golomb_form of (below left)) (λ v. done (v + 1)) 63 0 Any Any (number_few of (below left)) (λ v at. few_done (v + 1) 0 Any tt) in
    fewer (sizes_from of (suc more) left sizes) (63 + more * 63) (suc more * 63) Any Any (omega (arith, all)) (λ a at. tt)
    (few_then (tile_size_form of left) (λ size. sizes_from of more (left - size) (sizes ++ size ∷ [])) 63 (more * 63) Any Any size (λ n at. sizes_few of more (left - n) (sizes ++ n ∷ [])))

some_sizes : (of count total : ℕ) → count ≤ 512 → Few 32256 Any (sizes_of of count total)
unfolding sizes_of
some_sizes of count total few =
    let all : count * 63 ≤ 32256 = omega (arith, few) in
    fewer (sizes_from of count total []) (count * 63) 32256 Any Any all (λ a at. tt) (sizes_few of count total [])

tiles_few : (columns rows : ℕ) → columns ≤ 512 → rows ≤ 512 → Few 70000 Any (tiles_among columns rows)
unfolding tiles_among golomb_below
tiles_few columns rows across down =
    fewer (tiles_among columns rows) (63 + (63 + (32256 + (32256 + 0)))) 70000 Any Any (omega arith) (λ a at. tt)
    (few_then (golomb_below pps.pps_num_exp_tile_columns_minus1 columns) _ 63 (63 + (32256 + (32256 + 0))) (λ n. n < columns) Any (number_below pps.pps_num_exp_tile_columns_minus1 columns) (λ last_column wide.
    few_then (golomb_below pps.pps_num_exp_tile_rows_minus1 rows) _ 63 (32256 + (32256 + 0)) (λ n. n < rows) Any (number_below pps.pps_num_exp_tile_rows_minus1 rows) (λ last_row high.
    few_then (sizes_of pps.pps_tile_column_width_minus1 (last_column + 1) columns) _ 32256 (32256 + 0) Any Any (some_sizes pps.pps_tile_column_width_minus1 (last_column + 1) columns (omega (arith, wide, across))) (λ widths at.
    few_then (sizes_of pps.pps_tile_row_height_minus1 (last_row + 1) rows) _ 32256 0 Any Any (some_sizes pps.pps_tile_row_height_minus1 (last_row + 1) rows (omega (arith, high, down))) (λ heights at.
    few_done (tiles_of widths columns heights rows) 0 Any tt)))))

flags_few : (g : Tiles) → Few 2 Any (tile_flags g)
unfolding tile_flags
flags_few g = either (nat_lt 1 (across g * down g)) _ (done 1) (λ size a. (size ≤ 2) × Any a)
    (few_then (flag pps.pps_loop_filter_across_tiles_enabled_flag) _ 1 1 Any Any (fixed_few pps.pps_loop_filter_across_tiles_enabled_flag 1 (below 2)) (λ v at. fixed_few pps.pps_rect_slice_flag 1 _))
    (few_done 1 2 Any tt)

-- ---- the slice list: each explicit slice of a tile takes one of those that are left

abbrev room : ℕ → List Rect → ℕ
room last slices = last + 1 - length slices

-- bits, and room that is taken
abbrev Takes : ℕ → ℕ → List Rect → Form (List Rect) → Type 0
Takes n last slices form = EachSpelling form (λ size all. size + 63 * room last all ≤ n + 63 * room last slices)

strips_take : (t : Rect) (last more y size : ℕ) (slices : List Rect) → Few (more * 63) (λ all. length slices + more ≤ length all) (strips_from t last more y size slices)
strips_take t last zero y size slices =
    few_done (slices ++ strips t y (repeated_sizes size (t.y + t.h - y))) 0 (λ all. length slices + 0 ≤ length all) (omega (arith, length-append slices (strips t y (repeated_sizes size (t.y + t.h - y)))))
strips_take t last (suc more) y size slices =
    let all : suc more * 63 ≡ more * 63 + 63 = suc-mul more 63 in
    let height : Few 63 Any (strip_height t last more y slices) = few_then (golomb_form pps.pps_exp_slice_height_in_ctus_minus1 _) (λ v. done (v + 1)) 63 0 Any Any (number_few pps.pps_exp_slice_height_in_ctus_minus1 _) (λ v at. few_done (v + 1) 0 Any tt) in
    fewer (strips_from t last (suc more) y size slices) (63 + more * 63) (suc more * 63) (λ all. length slices + suc more ≤ length all) (λ all. length slices + suc more ≤ length all) (omega (arith, all)) (λ a at. at)
    (few_then (strip_height t last more y slices) (λ height. strips_from t last more (y + height) height (slices ++ strips t y (height ∷ []))) 63 (more * 63) Any (λ all. length slices + suc more ≤ length all) height (λ h at.
    let now : List Rect = slices ++ strips t y (h ∷ []) in
    fewer (strips_from t last more (y + h) h now) (more * 63) (more * 63) (λ all. length now + more ≤ length all) (λ all. length slices + suc more ≤ length all) (omega arith)
    (λ all enough. omega (arith, enough, length-append slices (strips t y (h ∷ [])))) (strips_take t last more (y + h) h now)))

tile_takes : (t : Rect) (last : ℕ) (slices : List Rect) → Takes 63 last slices (slices_in_tile t last slices)
tile_takes t last slices =
    spelling_then (golomb_form pps.pps_num_exp_slices_in_tile (below (last + 2 - length slices))) _ (λ size n. (size ≤ 63) × (n < last + 2 - length slices)) (λ size all. size + 63 * room last all ≤ 63 + 63 * room last slices)
    (number_below pps.pps_num_exp_slices_in_tile (last + 2 - length slices))
    (λ size explicit is.
    let few = is.0 in
    let left = is.1 in
    either (explicit == 0) (done (slices ++ t ∷ [])) (strips_from t last explicit t.y 0 slices) (λ k all. size + k + 63 * room last all ≤ 63 + 63 * room last slices)
    (spelling_done (slices ++ t ∷ []) (λ k all. size + k + 63 * room last all ≤ 63 + 63 * room last slices) (omega (arith, few, length-append slices (t ∷ []))))
    (spelling_weaker (strips_from t last explicit t.y 0 slices) (λ k all. (k ≤ explicit * 63) × (length slices + explicit ≤ length all)) (λ k all. size + k + 63 * room last all ≤ 63 + 63 * room last slices)
    (strips_take t last explicit t.y 0 slices) (λ k all more. let bits = more.0 in let long = more.1 in omega (arith, few, left, bits, long))))

slices_take : (g : Tiles) (last t width height : ℕ) (slices : List Rect) → Takes 63 last slices (slices_from_tile g last t width height slices)
slices_take g last t width height slices =
    either (may_be_cut width height (tile g t)) (slices_in_tile (tile g t) last slices) (done (slices ++ block g t (width + 1) (height + 1) ∷ [])) (λ size all. size + 63 * room last all ≤ 63 + 63 * room last slices)
    (tile_takes (tile g t) last slices)
    (spelling_done (slices ++ block g t (width + 1) (height + 1) ∷ []) (λ size all. size + 63 * room last all ≤ 63 + 63 * room last slices) (omega (arith, length-append slices (block g t (width + 1) (height + 1) ∷ []))))

width_few : (g : Tiles) (t : ℕ) → Few 63 Any (width_in_tiles g t)
width_few g t = either (column g t + 1 == across g) (done 0) _ (λ size n. (size ≤ 63) × Any n) (few_done 0 63 Any tt) (number_few pps.pps_slice_width_in_tiles_minus1 _)

height_few : (g : Tiles) (deltas : Bool) (t before : ℕ) → Few 63 Any (height_in_tiles g deltas t before)
height_few g deltas t before =
    either (row g t + 1 == down g) (done 0) _ (λ size n. (size ≤ 63) × Any n) (few_done 0 63 Any tt)
    (either (spells_height g deltas t) _ (done before) (λ size n. (size ≤ 63) × Any n) (number_few pps.pps_slice_height_in_tiles_minus1 _) (few_done before 63 Any tt))

next_few : (g : Tiles) (spelled : Bool) (t width height : ℕ) → Few 63 Any (tile_after g spelled t width height)
next_few g spelled t width height =
    either spelled (delta g t) (done (tile_behind g t width height)) (λ size n. (size ≤ 63) × Any n) (one_field (delta_cell g t) _ Any (λ v is. tt)) (few_done (tile_behind g t width height) 63 Any tt)

turn_takes : (g : Tiles) (last : ℕ) (deltas : Bool) (at : Listed) → EachSpelling (turn g last deltas at) (λ size new. size + 63 * room last new.slices ≤ 252 + 63 * room last at.slices)
turn_takes g last deltas at =
    let Q : ℕ → Listed → Type 0 = λ size new. size + 63 * room last new.slices ≤ 252 + 63 * room last at.slices in
    spelling_then (width_in_tiles g at.next) _ (λ size n. (size ≤ 63) × Any n) Q (width_few g at.next) (λ a width few_a.
    spelling_then (height_in_tiles g deltas at.next at.before) _ (λ size n. (size ≤ 63) × Any n) (λ size new. Q (a + size) new) (height_few g deltas at.next at.before) (λ b height few_b.
    spelling_then (slices_from_tile g last at.next width height at.slices) _ (λ size all. size + 63 * room last all ≤ 63 + 63 * room last at.slices) (λ size new. Q (a + (b + size)) new) (slices_take g last at.next width height at.slices) (λ c slices few_c.
    spelling_then (tile_after g (spells_delta deltas slices last) at.next width height) _ (λ size n. (size ≤ 63) × Any n) (λ size new. Q (a + (b + (c + size))) new) (next_few g (spells_delta deltas slices last) at.next width height) (λ d next few_d.
    spelling_done (record { slices = slices; next = next; before = height }) (λ size new. Q (a + (b + (c + (d + size)))) new)
    (let one = few_a.0 in let two = few_b.0 in let four = few_d.0 in omega (arith, one, two, few_c, four))))))

turns_take : (g : Tiles) (last : ℕ) (deltas : Bool) (more : ℕ) (at : Listed) → Few (more * 252 + 63 * room last at.slices) Any (turns_from g last deltas more at)
turns_take g last deltas zero at = few_done at (zero * 252 + 63 * room last at.slices) Any tt
turns_take g last deltas (suc more) at =
    let all : suc more * 252 ≡ more * 252 + 252 = suc-mul more 252 in
    either (goes_on g last at) (turn g last deltas at >>= turns_from g last deltas more) (done at) (λ size a. (size ≤ suc more * 252 + 63 * room last at.slices) × Any a)
    (spelling_then (turn g last deltas at) (turns_from g last deltas more) (λ size new. size + 63 * room last new.slices ≤ 252 + 63 * room last at.slices) (λ size a. (size ≤ suc more * 252 + 63 * room last at.slices) × Any a)
    (turn_takes g last deltas at)
    (λ size new is. spelling_weaker (turns_from g last deltas more new) (λ k a. (k ≤ more * 252 + 63 * room last new.slices) × Any a) (λ k a. (size + k ≤ suc more * 252 + 63 * room last at.slices) × Any a)
    (turns_take g last deltas more new) (λ k a few. (let bits = few.0 in omega (arith, all, is, bits), tt))))
    (few_done at (suc more * 252 + 63 * room last at.slices) Any tt)

list_few : (g : Tiles) (last : ℕ) (deltas : Bool) → last < 1000 → Few 320000 Any (list_from g last deltas)
list_few g last deltas small =
    fewer (list_from g last deltas) (last * 252 + 63 * room last [] + 0) 320000 Any Any (omega (arith, small)) (λ a at. tt)
    (few_then (turns_from g last deltas last none_listed) (λ at. done (all_slices g last at)) (last * 252 + 63 * room last []) 0 Any Any (turns_take g last deltas last none_listed) (λ at is. few_done (all_slices g last at) 0 Any tt))

last_few : Few 63 (λ n. n < 1000) last_slice
unfolding last_slice
last_few = one_field _ _ (λ n. n < 1000) (λ v is. limited_bound 1000 (natural v) (Limit TOO_MANY_SLICES) (golomb_range (Below 1000 (Limit TOO_MANY_SLICES)) v is.code is.range))

deltas_few : (last : ℕ) → Few 1 Any (deltas_flag last)
unfolding deltas_flag
deltas_few last = either (nat_lt 1 last) (flag pps.pps_tile_idx_delta_present_flag) (done 0) (λ size n. (size ≤ 1) × Any n) (fixed_few pps.pps_tile_idx_delta_present_flag 1 (below 2)) (few_done 0 1 Any tt)

across_few : (last : ℕ) (inside : Bool) → Few 1 Any (across_flag last inside)
unfolding across_flag
across_few last inside =
    either (last == 0) (done 0) _ (λ size n. (size ≤ 1) × Any n) (few_done 0 1 Any tt)
    (either inside (flag pps.pps_loop_filter_across_slices_enabled_flag) (impossible_flag pps.pps_loop_filter_across_slices_enabled_flag) (λ size n. (size ≤ 1) × Any n)
    (fixed_few pps.pps_loop_filter_across_slices_enabled_flag 1 (below 2)) (fixed_few pps.pps_loop_filter_across_slices_enabled_flag 1 (below 0)))

listed_few : (g : Tiles) → Few 330000 Any (listed_slices g)
unfolding listed_slices
listed_few g =
    fewer (listed_slices g) (63 + (1 + (320000 + (1 + 0)))) 330000 Any Any (omega arith) (λ a at. tt)
    (few_then last_slice _ 63 (1 + (320000 + (1 + 0))) (λ n. n < 1000) Any last_few (λ last small.
    few_then (deltas_flag last) _ 1 (320000 + (1 + 0)) Any Any (deltas_few last) (λ deltas at.
    few_then (list_from g last (is_set deltas)) _ 320000 (1 + 0) Any Any (list_few g last (is_set deltas) small) (λ slices at.
    few_then (across_flag last (is_some slices)) _ 1 0 Any Any (across_few last (is_some slices)) (λ across at. few_done slices 0 Any tt)))))

slices_few : (g : Tiles) (single : ℕ) → Few 330000 Any (slices_among g single)
unfolding slices_among subpicture_slices
slices_few g single =
    either (is_set single) subpicture_slices (listed_slices g) (λ size a. (size ≤ 330000) × Any a)
    (fewer subpicture_slices (1 + 0) 330000 Any Any (omega arith) (λ a at. tt)
    (few_then (flag pps.pps_loop_filter_across_slices_enabled_flag) _ 1 0 Any Any (fixed_few pps.pps_loop_filter_across_slices_enabled_flag 1 (below 2)) (λ across at. few_done _ 0 Any tt)))
    (listed_few g)

-- ---- both

divided_few : (width height : ℕ) → Few 410000 Any (divided width height)
unfolding divided
divided_few width height =
    fewer (divided width height) (2 + (70000 + (2 + (1 + (330000 + 0))))) 410000 Any Any (omega arith) (λ a at. tt)
    (few_then ctu_size _ 2 (70000 + (2 + (1 + (330000 + 0)))) Any Any (fixed_few pps.pps_log2_ctu_size_minus5 2 (below 3)) (λ log2 at.
    few_then (tiles_among (ctus_across width log2) (ctus_across height log2)) _ 70000 (2 + (1 + (330000 + 0))) Any Any (tiles_few (ctus_across width log2) (ctus_across height log2) (omega arith) (omega arith)) (λ tiles at.
    few_then (tile_flags tiles) _ 2 (1 + (330000 + 0)) Any Any (flags_few tiles) (λ rectangles at.
    few_then (flag pps.pps_single_slice_per_subpic_flag) _ 1 (330000 + 0) Any Any (fixed_few pps.pps_single_slice_per_subpic_flag 1 (below 2)) (λ single at.
    few_then (slices_among tiles single) _ 330000 0 Any Any (slices_few tiles single) (λ slices at. few_done (record { tiles = tiles; slices = slices }) 0 Any tt))))))

partition_few : (whole width height : ℕ) → Few 410000 Any (partition whole width height)
unfolding partition
partition_few whole width height = either (is_set whole) (done undivided) (divided width height) (λ size a. (size ≤ 410000) × Any a) (few_done undivided 410000 Any tt) (divided_few width height)

-- ---- the set

abbrev bound_by : ℕ → ℕ → Bound
bound_by of most = record { of = of; greatest = most }

-- the fields that count
abbrev bounds : List Bound
bounds = bound_by pps.pps_num_subpics_minus1 1000 ∷ bound_by pps.pps_chroma_qp_offset_list_len_minus1 5 ∷ []

front_short : Few 100000 (IsWithin bounds) (sections_form before_tiles fresh)
unfolding has_value row_keeps presence_keeps greatest_coded greatest_ranged greatest_value most_turns table_bits part_bits code_bits
front_short = fewer (sections_form before_tiles fresh) (sections_bits bounds before_tiles) 100000 (IsWithin bounds) (IsWithin bounds) (omega arith) (λ s at. at) (sections_are_short bounds before_tiles fresh refl (fresh_within bounds))

tools_short : (s : List ℕ) → IsWithin bounds s → Few 10000 (IsWithin bounds) (sections_form after_slices s)
unfolding has_value row_keeps presence_keeps greatest_coded greatest_ranged greatest_value most_turns table_bits part_bits code_bits
tools_short s within = fewer (sections_form after_slices s) (sections_bits bounds after_slices) 10000 (IsWithin bounds) (IsWithin bounds) (omega arith) (λ t at. at) (sections_are_short bounds after_slices s refl within)

pps_short : Few 520000 Any pps_form
unfolding pps_form
pps_short =
    few_then (sections_form before_tiles fresh) _ 100000 420000 (IsWithin bounds) Any front_short (λ s within.
    few_then (partition_at s) _ 410000 10000 Any Any (partition_few _ _ _) (λ p at.
    few_then (sections_form after_slices s) _ 10000 0 (IsWithin bounds) Any (tools_short s within) (λ t at. few_done p 0 Any tt)))

pub spelling_is_short : SpellingIsShort
spelling_is_short items bytes is =
    let few = (pps_short.at 0 is.is.set.values is.is.end is.is.set.follows).0 in
    omega (arith, few, ap length is.bits, length-bits_of bytes)
