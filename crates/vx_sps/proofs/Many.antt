-- Several subpictures go through: their flags, their places turn by turn, and the length of their ids.
use Rattle.std.proofs.Common.{◌≡◌, inl, inr, ℕ, pos, ◌+◌, ◌-◌, ◌<◌, ◌≤◌, ◌^◌, min, true, false, not, ◌==◌, ◌&&◌, List, [], ◌∷◌, ◌++◌, length, slice_set, refl, ap, sym, subst, ◌∙◌, arith}
use Rattle.std.specs.Prelude.{Bool, All, nat_lt, slice_index_or, drop}
use Rattle.std.proofs.lemmas.Bool.{lt-ltb}
use Rattle.std.proofs.lemmas.Bool.Decides.{eqb_tells}
use Rattle.std.proofs.lemmas.List.{append-nil}
use Rattle.std.proofs.lemmas.List.Elements.{All-get_or}
use Rattle.vx_fields.specs.declared.sps.TheConstants as sps
use Rattle.vx_fields.specs.declared.names.sps.TheConstants as names
use Rattle.vx_layout.specs.declared.rect.Rect.{Rect}
use Rattle.vx_layout.specs.Layouts.{no_rect}
use Rattle.vx_layout.specs.Rects.{IsPart}
use Rattle.vx_table.specs.declared.rows.Cell.{Cell}
use Rattle.vx_table.specs.declared.rows.Term.TheVariants.{Latest, Number}
use Rattle.vx_table.specs.declared.rows.Coding.TheVariants.{Fixed}
use Rattle.vx_table.specs.declared.rows.Limits.TheVariants.{Any}
use Rattle.vx_table.specs.declared.rows.Formula.{Formula}
use Rattle.vx_table.specs.declared.rows.Formula.TheVariants.{Plain, Below, Both, Equal}
use Rattle.vx_table.specs.declared.rows.Presence.TheVariants.{When}
use Rattle.vx_table.specs.Scope.{most, fresh, value, natural, is_set, one_if, powers_below}
use Rattle.vx_table.specs.Forms.{has_value, coding_at, limits_at, one_field, turns, present, part, form_of, after}
use Rattle.vx_table.specs.Parts.{Section, in_turns, sections_form}
use Rattle.vx_table.specs.Spelling.{HasCode, fault_of, item_of}
use Rattle.vx_table.specs.Depends.{Agree}
use Rattle.vx_table.specs.Claims.{knows_formula, knows_width, knows_range, knows_presence, hides_counter, hides_row, behind_field, within_block, depends, behind_rows, table_depends, behind_table, comes_always}
use Rattle.vx_table.specs.Named.{named_by}
use Rattle.vx_table.specs.laws.Again.{shows_row}
use Rattle.vx_table.specs.Rewrites.{Takes, in_all_turns}
use Rattle.vx_table.proofs.Agreeing.{agree_itself, same_value}
use Rattle.vx_table.proofs.Dependence.{inside_with_all}
use Rattle.vx_table.proofs.Chains.{table_carries}
use Rattle.vx_table.proofs.Again.{tables_show}
use Rattle.vx_table.proofs.Numbers.{powers_least}
use Rattle.vx_table.proofs.Rewrites.{tables_leave, turns_take}
use Rattle.vx_sps.specs.declared.tables.TheConstants.{SUBPICTURES, PLACE, SUBPIC_IDS}
use Rattle.vx_sps.specs.Structure.{with_subpictures}
use Rattle.vx_sps.specs.Reshaped.{item, place_items, many_items, id_bits}
use Rattle.vx_table.specs.Rewritten.{where_so}
use Rattle.vx_table.proofs.Groups.{agree_given, takes_at}
use Rattle.vx_sps.proofs.Stages.{TakesTo, Meets, groups_take_to, groups_beside, field_to, field_where, nowhere, then_to, there_to, absent_to, no_more_to}
use Rattle.vx_sps.proofs.Testing.{Anywhere, owed, tested, all_tested, at_end, they_take, values_take_to}
use Rattle.vx_sps.proofs.Picture.{block, block_at, within_range}

-- ---- one subpicture

pub alone_at : (columns rows : ℕ) (rect : Rect) → Takes (sections_form block (block_at 1 columns rows)) (many_items columns rows (rect ∷ []))
unfolding fresh block_at sections_form form_of part one_field after present turns has_value coding_at limits_at value HasCode fault_of item_of natural powers_below
alone_at columns rows rect = they_take _ (pos 0 ∷ pos 0 ∷ pos 0 ∷ []) _ (all_tested refl (λ s. tt)) refl

-- ---- several: their number and flags

places_at : ℕ → ℕ → ℕ → List ℕ
places_at n columns rows =
    slice_set (slice_set (slice_set (slice_set (slice_set (slice_set (slice_set (slice_set fresh sps.sps_subpic_info_present_flag 1)
    sps.sps_num_subpics_minus1 (n - 1)) sps.sps_independent_subpics_flag 1)
    names.IS_WIDE (one_if (nat_lt 1 columns))) names.IS_HIGH (one_if (nat_lt 1 rows))) names.X_BITS (powers_below 32 columns)) names.Y_BITS (powers_below 32 rows))
    names.NUM_PLACES n

-- what a place reads but its turn
abbrev place_given : List ℕ
place_given = sps.sps_num_subpics_minus1 ∷ sps.sps_independent_subpics_flag ∷ sps.sps_subpic_same_size_flag ∷ names.IS_WIDE ∷ names.IS_HIGH ∷ names.X_BITS ∷ names.Y_BITS ∷ []

abbrev places_given : List ℕ
places_given = sps.sps_subpic_info_present_flag ∷ names.NUM_PLACES ∷ place_given

some_seen : (n : ℕ) → 0 < n → (min n 4294967295 == 0) ≡ false
some_seen n some = elim (eqb_tells (min n 4294967295) 0) [ inl is ↦ absurd (omega (arith, is.1)) | inr other ↦ other.0 ]

flags_at : (n columns rows : ℕ) → 1 < n → n ≤ 1000
    → TakesTo (sections_form (with_subpictures SUBPICTURES ∷ []) (block_at 1 columns rows))
    (item sps.sps_num_subpics_minus1 (n - 1) ∷ item sps.sps_independent_subpics_flag 1 ∷ item sps.sps_subpic_same_size_flag 0 ∷ []) (Meets places_given (places_at n columns rows))
unfolding fresh block_at places_at sections_form form_of part one_field after has_value coding_at limits_at value HasCode fault_of item_of natural
flags_at n columns rows several few =
    let seen : n - 1 ≡ min (n - 1) 4294967295 = omega arith in
    let all : n ≡ min (min (n - 1) 4294967295 + 1) 4294967295 = omega arith in
    no_more_to (there_to _ _ _ refl (field_to (pos (n - 1)) (omega arith) (within_range (n - 1) 999 _ (omega arith)) (no_more_to (there_to _ _ _ (some_seen (n - 1) (omega arith))
    (values_take_to _ (pos 1 ∷ pos 0 ∷ []) _ _ (tested refl (tested refl (at_end (refl, (refl, (all, (seen, (refl, (refl, (refl, (refl, (refl, (refl, tt))))))))))))) refl)))))

-- ---- a place

-- the scope of a turn, behind the name that its first row sets
turn_at : ℕ → ℕ → ℕ → ℕ → List ℕ
turn_at n columns rows i = slice_set (slice_set (places_at n columns rows) names.SUBPIC i) names.LIKE_FIRST 0

abbrev turn_given : List ℕ
turn_given = names.SUBPIC ∷ place_given

flag_seen : (b : Bool) → (one_if b == 0) ≡ not b
flag_seen true = refl
flag_seen false = refl

flag_set : (b : Bool) → is_set (one_if b) ≡ b
flag_set true = refl
flag_set false = refl

-- a number that the bits of a column or row can hold
fits_bits : (n x : ℕ) → n ≤ 16384 → x < n → x < 2 ^ min (powers_below 32 n) 32
fits_bits n x few small =
    let within : n ≤ 2 ^ 32 = omega arith in
    let short : powers_below 32 n ≤ 14 = (powers_least 32 n 14 within).0 (omega arith) in
    let large : n ≤ 2 ^ powers_below 32 n = (powers_least 32 n (powers_below 32 n) within).1 (omega arith) in
    let same : min (powers_below 32 n) 32 ≡ powers_below 32 n = omega (arith, short) in
    rw same (omega (arith, large))

-- a number of columns or rows
abbrev place_cell : ℕ → ℕ → Cell Formula
place_cell of bits = record { field = of; kept = false; coding = Fixed (Plain (Latest bits)); limits = Any }

abbrev At : ℕ → ℕ → ℕ → ℕ → List ℕ → Type 0
At n columns rows i s = Meets turn_given (turn_at n columns rows i) s

-- the sizes, of all but the last
sizes_at : (n columns rows i w h : ℕ) (s : List ℕ) (before_last : Bool) → nat_lt i (n - 1) ≡ before_last → columns ≤ 16384 → rows ≤ 16384 → w < columns → h < rows → At n columns rows i s
    → TakesTo (present (When (Below (Latest names.SUBPIC) (Latest sps.sps_num_subpics_minus1))) (part 0 4 (drop 7 PLACE)) s)
    (where_so (before_last && nat_lt 1 columns) (item sps.sps_subpic_width_minus1 w ∷ []) ++ where_so (before_last && nat_lt 1 rows) (item sps.sps_subpic_height_minus1 h ∷ []))
    (At n columns rows i)
unfolding fresh places_at turn_at part one_field has_value knows_formula knows_width knows_range value coding_at limits_at HasCode fault_of item_of
sizes_at n columns rows i w h s true is few small wide high met =
    let agree : Agree turn_given (turn_at n columns rows i) s = agree_given turn_given met.0 met.1 in
    let same = same_value (Below (Latest names.SUBPIC) (Latest sps.sps_num_subpics_minus1)) agree refl in
    there_to _ _ s (ap (λ x. x == 0) (sym same) ∙ ap (λ b. one_if b == 0) is)
    (then_to _ (field_where turn_given (turn_at n columns rows i) s (Plain (Latest names.IS_WIDE)) (place_cell sps.sps_subpic_width_minus1 names.X_BITS) (nat_lt 1 columns) (pos w) refl refl refl refl met
    (flag_seen (nat_lt 1 columns)) (record { code = fits_bits columns w few wide; range = refl }))
    (λ t there. no_more_to (field_where turn_given (turn_at n columns rows i) t (Plain (Latest names.IS_HIGH)) (place_cell sps.sps_subpic_height_minus1 names.Y_BITS) (nat_lt 1 rows) (pos h) refl refl refl refl there
    (flag_seen (nat_lt 1 rows)) (record { code = fits_bits rows h small high; range = refl }))))
sizes_at n columns rows i w h s false is few small wide high met =
    let agree : Agree turn_given (turn_at n columns rows i) s = agree_given turn_given met.0 met.1 in
    let same = same_value (Below (Latest names.SUBPIC) (Latest sps.sps_num_subpics_minus1)) agree refl in
    absent_to _ _ s (ap (λ x. x == 0) (sym same) ∙ ap (λ b. one_if b == 0) is) met

later_seen : (i : ℕ) (several : Bool) → (one_if (is_set i && is_set (one_if several)) == 0) ≡ not (is_set i && several)
later_seen i several = ap (λ b. one_if (is_set i && b) == 0) (flag_set several) ∙ flag_seen (is_set i && several)

-- the corner, of all but the first, and the sizes
corner_at : (n columns rows i x y w h : ℕ) (s : List ℕ) → columns ≤ 16384 → rows ≤ 16384 → x < columns → y < rows → w < columns → h < rows → At n columns rows i s
    → TakesTo (part 0 9 (drop 2 PLACE) s)
    (where_so (is_set i && nat_lt 1 columns) (item sps.sps_subpic_ctu_top_left_x x ∷ [])
    ++ (where_so (is_set i && nat_lt 1 rows) (item sps.sps_subpic_ctu_top_left_y y ∷ [])
    ++ (where_so (nat_lt i (n - 1) && nat_lt 1 columns) (item sps.sps_subpic_width_minus1 w ∷ []) ++ where_so (nat_lt i (n - 1) && nat_lt 1 rows) (item sps.sps_subpic_height_minus1 h ∷ []))))
    (At n columns rows i)
unfolding fresh places_at turn_at part one_field has_value knows_formula knows_width knows_range value coding_at limits_at HasCode fault_of item_of
corner_at n columns rows i x y w h s few small across down wide high met =
    then_to _ (field_where turn_given (turn_at n columns rows i) s (Both (Latest names.SUBPIC) (Latest names.IS_WIDE)) (place_cell sps.sps_subpic_ctu_top_left_x names.X_BITS) (is_set i && nat_lt 1 columns) (pos x)
    refl refl refl refl met (later_seen i (nat_lt 1 columns)) (record { code = fits_bits columns x few across; range = refl }))
    (λ t there. then_to _ (field_where turn_given (turn_at n columns rows i) t (Both (Latest names.SUBPIC) (Latest names.IS_HIGH)) (place_cell sps.sps_subpic_ctu_top_left_y names.Y_BITS) (is_set i && nat_lt 1 rows) (pos y)
    refl refl refl refl there (later_seen i (nat_lt 1 rows)) (record { code = fits_bits rows y small down; range = refl }))
    (λ u then. no_more_to (sizes_at n columns rows i w h u (nat_lt i (n - 1)) refl few small wide high then)))

-- a place whole: each subpicture has its own, and all are independent
turn_goes : (n columns rows i x y w h : ℕ) → columns ≤ 16384 → rows ≤ 16384 → x < columns → y < rows → w < columns → h < rows
    → TakesTo (form_of PLACE (slice_set (places_at n columns rows) names.SUBPIC i))
    ((where_so (is_set i && nat_lt 1 columns) (item sps.sps_subpic_ctu_top_left_x x ∷ [])
    ++ (where_so (is_set i && nat_lt 1 rows) (item sps.sps_subpic_ctu_top_left_y y ∷ [])
    ++ (where_so (nat_lt i (n - 1) && nat_lt 1 columns) (item sps.sps_subpic_width_minus1 w ∷ []) ++ where_so (nat_lt i (n - 1) && nat_lt 1 rows) (item sps.sps_subpic_height_minus1 h ∷ [])))) ++ [])
    (At n columns rows i)
unfolding fresh places_at turn_at form_of part value knows_formula
turn_goes n columns rows i x y w h few small across down wide high =
    then_to _ (there_to _ _ _ refl (corner_at n columns rows i x y w h (turn_at n columns rows i) few small across down wide high (refl, (refl, (refl, (refl, (refl, (refl, (refl, (refl, (refl, tt)))))))))))
    (λ s met. no_more_to (nowhere turn_given (turn_at n columns rows i) s (Equal (Latest sps.sps_independent_subpics_flag) (Number 0)) _ refl met refl))

-- each place of some rectangles that are parts
place_goes : (columns rows : ℕ) (rects : List Rect) (i : ℕ) → columns ≤ 16384 → rows ≤ 16384 → All (IsPart columns rows) rects → i < length rects
    → Takes (form_of PLACE (slice_set (places_at (length rects) columns rows) names.SUBPIC i)) (place_items columns rows rects i)
place_goes columns rows rects i few small are within =
    let rect : Rect = slice_index_or rects i no_rect in
    let is : IsPart columns rows rect = All-get_or (IsPart columns rows) rects i no_rect within are in
    subst (λ x. Takes (form_of PLACE (slice_set (places_at (length rects) columns rows) names.SUBPIC i)) x) (append-nil (place_items columns rows rects i))
    (turn_goes (length rects) columns rows i rect.x rect.y (rect.w - 1) (rect.h - 1) few small (omega (arith, is.wide, is.across)) (omega (arith, is.high, is.down))
    (omega (arith, is.wide, is.across)) (omega (arith, is.high, is.down))).takes

-- ---- turn by turn

abbrev place_shown : List ℕ
place_shown = (names.SUBPIC ∷ places_given) ++ named_by PLACE

places_turn : (columns rows : ℕ) (rects : List Rect) → columns ≤ 16384 → rows ≤ 16384 → All (IsPart columns rows) rects
    → Takes (turns (form_of PLACE) names.SUBPIC 0 (length rects) (places_at (length rects) columns rows)) (in_all_turns (place_items columns rows rects) 0 (length rects))
unfolding fresh has_value knows_formula knows_width knows_range knows_presence hides_counter hides_row behind_field within_block depends behind_rows table_depends behind_table comes_always shows_row
places_turn columns rows rects few small are =
    let s : List ℕ = places_at (length rects) columns rows in
    turns_take place_shown places_given _ (form_of PLACE) names.SUBPIC (length rects) s s (place_items columns rows rects) refl
    (inside_with_all (names.SUBPIC ∷ places_given) (named_by PLACE)) (table_carries place_shown (names.SUBPIC ∷ places_given) PLACE refl) (tables_show place_shown PLACE refl)
    (tables_leave places_given PLACE refl) (agree_itself places_given s) (λ i within. place_goes columns rows rects i few small are within)

abbrev places_group : List Section
places_group = in_turns names.SUBPIC (Plain (Latest names.NUM_PLACES)) PLACE ∷ []

places_go : (columns rows : ℕ) (rects : List Rect) → columns ≤ 16384 → rows ≤ 16384 → All (IsPart columns rows) rects
    → Takes (sections_form places_group (places_at (length rects) columns rows)) (in_all_turns (place_items columns rows rects) 0 (length rects))
unfolding fresh places_at sections_form present value
places_go columns rows rects few small are = (no_more_to {P = Anywhere} (record { takes = places_turn columns rows rects few small are; at_end = tt })).takes

ids_at : (n columns rows : ℕ) → 1 < n → n ≤ 1000
    → Takes (sections_form (with_subpictures SUBPIC_IDS ∷ []) (places_at n columns rows))
    (item sps.sps_subpic_id_len_minus1 (id_bits n - 1) ∷ item sps.sps_subpic_id_mapping_explicitly_signalled_flag 0 ∷ [])
unfolding fresh places_at sections_form form_of part one_field after present turns has_value coding_at limits_at value HasCode fault_of item_of natural
ids_at n columns rows several few =
    let short : powers_below 32 n ≤ 10 = (powers_least 32 n 10 (omega arith)).0 (omega arith) in
    they_take _ (pos (id_bits n - 1) ∷ pos 0 ∷ []) _ (owed (omega (arith, short)) (within_range (id_bits n - 1) 15 _ (omega (arith, short))) (all_tested refl (λ s. tt))) refl

pub several_at : (columns rows : ℕ) (rects : List Rect) → columns ≤ 16384 → rows ≤ 16384 → 1 < length rects → length rects ≤ 1000 → All (IsPart columns rows) rects
    → Takes (sections_form block (block_at 1 columns rows)) (many_items columns rows rects)
unfolding fresh has_value knows_formula knows_width knows_range knows_presence hides_counter hides_row behind_field within_block depends behind_rows table_depends behind_table comes_always shows_row
several_at columns rows rects few small several most are =
    let there : nat_lt 1 (length rects) ≡ true = lt-ltb 1 (length rects) several in
    rw there
    (groups_take_to (with_subpictures SUBPICTURES ∷ []) (places_group ++ with_subpictures SUBPIC_IDS ∷ []) (block_at 1 columns rows) (flags_at (length rects) columns rows several most)
    (λ e met. takes_at places_given (places_group ++ with_subpictures SUBPIC_IDS ∷ []) (places_at (length rects) columns rows) e refl refl (agree_given places_given met.0 met.1)
    (groups_beside places_given places_group (with_subpictures SUBPIC_IDS ∷ []) (places_at (length rects) columns rows) refl refl refl (places_go columns rows rects few small are)
    (ids_at (length rects) columns rows several most))))
