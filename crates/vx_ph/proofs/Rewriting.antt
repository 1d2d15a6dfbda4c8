-- A picture header goes again with its kept fields, another id of the PPS, other LMCS and scaling lists, and neither filter nor QP.
use Rattle.std.proofs.Common.{◌≡◌, ℕ, pos, ◌≤◌, Bool, true, false, ◌&&◌, ◌==◌, List, [], ◌∷◌, ◌++◌, slice_index, refl, sym, ◌∙◌, arith}
use Rattle.std.specs.Prelude.{IsTrue, int_le}
use Rattle.std.proofs.lemmas.Bool.{le-leb}
use Rattle.std.proofs.lemmas.List.{append-nil}
use Rattle.vx_bits.specs.declared.list.Item.{Item}
use Rattle.vx_table.specs.declared.rows.Row.{Row}
use Rattle.vx_table.specs.declared.rows.Term.TheVariants.{Number, Latest}
use Rattle.vx_table.specs.declared.rows.Formula.TheVariants.{Plain, Both}
use Rattle.vx_table.specs.declared.rows.Presence.TheVariants.{When}
use Rattle.vx_table.specs.Scope.{fresh, one_if, is_set, value}
use Rattle.vx_table.specs.Forms.{Form, done, ◌>>=◌, has_value, coding_at, limits_at, after, one_field, present, part, form_of}
use Rattle.vx_table.specs.Parts.{Section, always, provided, sections_form}
use Rattle.vx_table.specs.EachField.{rows_pass}
use Rattle.vx_table.specs.Spelling.{HasCode, fault_of, item_of, items_along}
use Rattle.vx_table.specs.Values.{to_end, through}
use Rattle.vx_table.specs.Depends.{has, Agree, Leaves}
use Rattle.vx_table.specs.Claims.{knows_formula, knows_width, knows_range, knows_presence, hides_counter, hides_row, hides, behind_field, within_block, depends, behind_rows, table_depends, behind_table}
use Rattle.vx_table.specs.Named.{named_by}
use Rattle.vx_table.specs.laws.Again.{shows_row}
use Rattle.vx_table.specs.Rewrites.{Takes}
use Rattle.vx_table.proofs.Agreeing.{agree_itself, agree_less}
use Rattle.vx_table.proofs.Dependence.{inside_with_all}
use Rattle.vx_table.proofs.EachField.{each_present}
use Rattle.vx_table.proofs.Chains.{table_carries}
use Rattle.vx_table.proofs.Again.{tables_show, sections_show}
use Rattle.vx_table.proofs.Rewrites.{takes_again, tables_leave, sections_leave, leaves_present}
use Rattle.vx_fields.specs.declared.sps.TheConstants.{sps_alf_enabled_flag, sps_chroma_format_idc, sps_lmcs_enabled_flag, sps_explicit_scaling_list_enabled_flag}
use Rattle.vx_fields.specs.declared.pps.TheConstants.{pps_alf_info_in_ph_flag, pps_qp_delta_info_in_ph_flag, pps_rpl_info_in_ph_flag}
use Rattle.vx_fields.specs.declared.ph.TheConstants.{ph_pic_parameter_set_id}
use Rattle.vx_fields.specs.declared.names.ph.TheConstants.{HAS_WEIGHTS}
use Rattle.vx_rpl.specs.declared.entry.RplTable.{RplTable}
use Rattle.vx_rpl.specs.Lists.{lists_form, weights, weights_form}
use Rattle.vx_rpl.proofs.Passing.{lists_show, lists_leave}
use Rattle.vx_ph.specs.declared.tables.TheConstants.{PICTURE, PPS_ID, ORDER_COUNT, ALF, LMCS_AND_SCALING, OUTPUT, QP, FILTERS}
use Rattle.vx_ph.specs.Header.{ph_before_lists, lists_if_present, middle, weights_if_present, back, ph_before_weights, header_form}
use Rattle.vx_ph.specs.Depends.{kept_with_names, kept_of_sets, starred_of_sets, HeaderRewrites}
use Rattle.vx_ph.proofs.Admitting.{Adds, adds_none, adds_all, adds_then, adds_before, refilled}
use Rattle.vx_ph.proofs.Carrying.{kept_depend}
use Rattle.vx_ph.proofs.Telling.{given_is_kept, not_given_is_not_kept}

-- what is taken over, with what that depends on; and what the others read
names : List ℕ
names = kept_of_sets ++ kept_with_names

abbrev of_maps : List ℕ
of_maps = sps_chroma_format_idc ∷ sps_lmcs_enabled_flag ∷ sps_explicit_scaling_list_enabled_flag ∷ []

read : List ℕ
read = (of_maps ++ starred_of_sets)

-- ---- tables that are always there

once : List Row → List ℕ → Form (List ℕ)
once rows = present (When (Plain (Number 1))) (form_of rows)

once_leaves : (set : List ℕ) (rows : List Row) → hides set rows ≡ true → Leaves set (once rows)
unfolding once
once_leaves set rows hide = leaves_present set (Plain (Number 1)) (form_of rows) (tables_leave set rows hide)

once_adds : (t : List ℕ) (rows : List Row) → rows_pass (shows_row names) rows ≡ true → hides read rows ≡ true → Adds names read t (once rows) []
unfolding once
once_adds t rows shows hide = adds_none (once rows)
    (record { at = λ s. each_present (λ cell. IsTrue (has names cell.field)) (When (Plain (Number 1))) (form_of rows) s (λ u. (tables_show names rows shows).at u) })
    (leaves_present read (Plain (Number 1)) (form_of rows) (tables_leave read rows hide))

-- ---- the parts of a header

-- the id of the PPS
id_item : ℕ → Item
id_item id = record { field = ph_pic_parameter_set_id; value = pos id }

takes_id : (t : List ℕ) (id : ℕ) → id ≤ 63 → Takes (once PPS_ID t) (id_item id ∷ [])
unfolding once present value form_of part one_field coding_at limits_at after has_value HasCode fault_of item_of id_item
takes_id t id small =
    let low : int_le (pos 0) (pos id) ≡ true = le-leb 0 id (omega arith) in
    let high : int_le (pos id) (pos 63) ≡ true = le-leb id 63 small in
    record { values = pos id ∷ []; end = _; follows = through (record { code = omega (arith, small); range = rw (low, high) refl }) to_end; all = refl }

id_adds : (t : List ℕ) (id : ℕ) → id ≤ 63 → Adds names read t (once PPS_ID) (id_item id ∷ [])
unfolding fresh hides_counter hides_row names read
id_adds t id small = adds_all (once PPS_ID) (id_item id ∷ []) (once_leaves names PPS_ID refl) (once_leaves read PPS_ID refl) (λ u agree. takes_id u id small)

-- no filter, where the PPS has it in slice headers
no_filter : (b : Bool) → (one_if (b && false) == 0) ≡ true
no_filter true = refl
no_filter false = refl

unfoldable pub filter_if : List ℕ → Form (List ℕ)
filter_if = present (When (Both (Latest sps_alf_enabled_flag) (Latest pps_alf_info_in_ph_flag))) (form_of ALF)

abbrev pub filter_section : Section
filter_section = provided (Both (Latest sps_alf_enabled_flag) (Latest pps_alf_info_in_ph_flag)) ALF

filter_leaves : (set : List ℕ) → hides set ALF ≡ true → Leaves set filter_if
unfolding filter_if
filter_leaves set hide = leaves_present set (Both (Latest sps_alf_enabled_flag) (Latest pps_alf_info_in_ph_flag)) (form_of ALF) (tables_leave set ALF hide)

takes_no_filter : (t : List ℕ) → slice_index t pps_alf_info_in_ph_flag ≡ 0 → Takes (filter_if t) []
unfolding filter_if present value
takes_no_filter t zero = rw (zero, no_filter (is_set (slice_index t sps_alf_enabled_flag)))
    (let nothing : Takes (done t) [] = record { values = []; end = t; follows = to_end; all = refl } in nothing)

filter_adds : (t : List ℕ) → slice_index t pps_alf_info_in_ph_flag ≡ 0 → Adds names read t filter_if []
unfolding fresh hides_counter hides_row names read
filter_adds t apart = adds_all filter_if [] (filter_leaves names refl) (filter_leaves read refl) (λ u agree. takes_no_filter u (sym (agree.same pps_alf_info_in_ph_flag refl) ∙ apart))

-- LMCS and scaling lists, as they go at the scope
maps_names : List ℕ
maps_names = of_maps ++ named_by LMCS_AND_SCALING

takes_maps : (t u : List ℕ) (maps : List Item) → Takes (form_of LMCS_AND_SCALING t) maps → Agree of_maps t u → Takes (once LMCS_AND_SCALING u) maps
unfolding maps_names once present value fresh has_value knows_formula knows_width knows_range knows_presence hides_counter hides_row behind_field within_block depends behind_rows table_depends behind_table shows_row
takes_maps t u maps takes agree =
    let carries = table_carries maps_names of_maps LMCS_AND_SCALING refl in
    let all = tables_show maps_names LMCS_AND_SCALING refl in
    takes_again maps_names _ (form_of LMCS_AND_SCALING t) (form_of LMCS_AND_SCALING u) maps
    (carries.alike (inside_with_all of_maps (named_by LMCS_AND_SCALING)) t u agree) (all.at t) (all.at u) takes

read_maps : (t u : List ℕ) → Agree read t u → Agree of_maps t u
unfolding read
read_maps t u agree = agree_less (inside_with_all of_maps starred_of_sets) agree

maps_add : (t : List ℕ) (maps : List Item) → Takes (form_of LMCS_AND_SCALING t) maps → Adds names read t (once LMCS_AND_SCALING) maps
unfolding fresh hides_counter hides_row names read
maps_add t maps takes = adds_all (once LMCS_AND_SCALING) maps (once_leaves names LMCS_AND_SCALING refl) (once_leaves read LMCS_AND_SCALING refl)
    (λ u agree. takes_maps t u maps takes (read_maps t u agree))

front_adds : (t : List ℕ) (id : ℕ) (maps : List Item) → id ≤ 63 → Takes (form_of LMCS_AND_SCALING t) maps → slice_index t pps_alf_info_in_ph_flag ≡ 0
    → Adds names read t (sections_form ph_before_lists) (id_item id ∷ (maps ++ []))
unfolding sections_form once filter_if names read fresh hides_counter hides_row shows_row
front_adds t id maps small takes apart =
    let last = adds_none (sections_form (always OUTPUT ∷ [])) (sections_show names (always OUTPUT ∷ []) refl) (sections_leave read (always OUTPUT ∷ []) refl) in
    adds_then (once PICTURE) (sections_form (always PPS_ID ∷ always ORDER_COUNT ∷ filter_section ∷ always LMCS_AND_SCALING ∷ always OUTPUT ∷ [])) [] (id_item id ∷ (maps ++ [])) (once_adds t PICTURE refl refl)
    (adds_then (once PPS_ID) (sections_form (always ORDER_COUNT ∷ filter_section ∷ always LMCS_AND_SCALING ∷ always OUTPUT ∷ [])) (id_item id ∷ []) (maps ++ []) (id_adds t id small)
    (adds_then (once ORDER_COUNT) (sections_form (filter_section ∷ always LMCS_AND_SCALING ∷ always OUTPUT ∷ [])) [] (maps ++ []) (once_adds t ORDER_COUNT refl refl)
    (adds_then filter_if (sections_form (always LMCS_AND_SCALING ∷ always OUTPUT ∷ [])) [] (maps ++ []) (filter_adds t apart)
    (adds_then (once LMCS_AND_SCALING) (sections_form (always OUTPUT ∷ [])) maps [] (maps_add t maps takes) last))))

-- lists, and what stands between them and the weights, and the weights
lists_add : (t : List ℕ) (table : RplTable) → Adds names read t (lists_if_present table) []
unfolding fresh shows_row hides_row hides_counter names read
lists_add t table =
    let known = Plain (Latest pps_rpl_info_in_ph_flag) in
    adds_none (lists_if_present table)
    (record { at = λ s. each_present (λ cell. IsTrue (has names cell.field)) (When known) (lists_form table) s (λ u. (lists_show table names refl).at u) })
    (leaves_present read known (lists_form table) (lists_leave table read refl refl))

middle_adds : (t : List ℕ) → Adds names read t (sections_form middle) []
unfolding fresh shows_row hides_row hides_counter names read
middle_adds t = adds_none (sections_form middle) (sections_show names middle refl) (sections_leave read middle refl)

weights_add : (t : List ℕ) → Adds names read t weights_if_present []
unfolding fresh shows_row hides_row hides_counter names read
weights_add t =
    let known = Plain (Latest HAS_WEIGHTS) in
    adds_none weights_if_present
    (record { at = λ s. each_present (λ cell. IsTrue (has names cell.field)) (When known) weights_form s (λ u. (sections_show names weights refl).at u) })
    (leaves_present read known weights_form (sections_leave read weights refl))

-- no QP, where the PPS has it in slice headers
takes_no_qp : (t : List ℕ) → slice_index t pps_qp_delta_info_in_ph_flag ≡ 0 → Takes (once QP t) []
unfolding once present value form_of part
takes_no_qp t zero = rw zero (let nothing : Takes (done t) [] = record { values = []; end = t; follows = to_end; all = refl } in nothing)

back_adds : (t : List ℕ) → slice_index t pps_qp_delta_info_in_ph_flag ≡ 0 → Adds names read t (sections_form back) []
unfolding sections_form once names read fresh hides_counter hides_row shows_row
back_adds t apart =
    adds_then (once QP) (sections_form (always FILTERS ∷ [])) [] []
    (adds_all (once QP) [] (once_leaves names QP refl) (once_leaves read QP refl) (λ u agree. takes_no_qp u (sym (agree.same pps_qp_delta_info_in_ph_flag refl) ∙ apart)))
    (adds_none (sections_form (always FILTERS ∷ [])) (sections_show names (always FILTERS ∷ []) refl) (sections_leave read (always FILTERS ∷ []) refl))

-- ---- the whole

header_adds : (t : List ℕ) (table : RplTable) (id : ℕ) (maps : List Item) → id ≤ 63 → Takes (form_of LMCS_AND_SCALING t) maps → slice_index t pps_alf_info_in_ph_flag ≡ 0
    → slice_index t pps_qp_delta_info_in_ph_flag ≡ 0 → Adds names read t (header_form table) (id_item id ∷ (maps ++ []))
unfolding ph_before_weights header_form
header_adds t table id maps small takes filter_apart qp_apart =
    let all : List Item = id_item id ∷ (maps ++ []) in
    let first = adds_before (sections_form ph_before_lists) (lists_if_present table) all (front_adds t id maps small takes filter_apart) (lists_add t table) in
    let before : Adds names read t (ph_before_weights table) all = adds_before (λ s. sections_form ph_before_lists s >>= lists_if_present table) (sections_form middle) all first (middle_adds t) in
    let weighted = adds_before (ph_before_weights table) weights_if_present all before (weights_add t) in
    adds_before (λ s. ph_before_weights table s >>= weights_if_present) (sections_form back) all weighted (back_adds t qp_apart)

pub header_rewrites : HeaderRewrites
unfolding names id_item
header_rewrites table s t values end id maps agree filter_apart qp_apart follows small takes =
    let adds : Adds names read t (header_form table) (id_item id ∷ maps) = rw (append-nil maps) at (header_adds t table id maps small takes filter_apart qp_apart) in
    let goes = refilled ((kept_depend table).alike s t agree) (adds.admits t (agree_itself read t)) follows in (
      items_along (header_form table t) goes.values,
      record {
        values = goes.values;
        end = goes.end;
        follows = goes.follows;
        all = refl;
        shown_ones = sym (given_is_kept table t goes.follows) ∙ goes.shown_ones ∙ given_is_kept table s follows;
        other_ones = sym (not_given_is_not_kept table t goes.follows) ∙ goes.other_ones;
      },
    )
