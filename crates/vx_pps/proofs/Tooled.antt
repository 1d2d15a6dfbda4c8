-- The tools of a picture parameter set, rewritten: for a region all are taken over, for a frame some are stated.
use Rattle.std.proofs.Common.{◌≡◌, ◌≢◌, ℕ, ℤ, pos, negsuc, leb, ◌≤◌, zero, suc, ◌<◌, ◌≤ℤ◌, ◌||◌, ◌&&◌, Bool, true, neg_ℤ, IsTrue, List, [], ◌∷◌, ◌++◌, length, slice_index, slice_set, sym, ap, ◌∙◌, subst, inl, inr, arith, refl, None}
use Rattle.std.proofs.lemmas.Bool.{cases_lt, le-leb}
use Rattle.std.proofs.lemmas.Int.{ints}
use Rattle.std.proofs.lemmas.List.{append-nil, get_or-set_other, get_or-set_same, get_or_past, length-set, set_past}
use Rattle.vx_bits.specs.Codes.{code_number, IsCodeNumber}
use Rattle.vx_bits.specs.declared.list.Item.{Item}
use Rattle.vx_fields.specs.declared.pps.TheConstants as pps
use Rattle.vx_table.specs.declared.rows.Fault.TheVariants.{OutOfRange}
use Rattle.vx_table.specs.declared.rows.Limits.TheVariants.{Within}
use Rattle.vx_table.specs.laws.Again.{GoesToo}
use Rattle.vx_table.specs.Claims.{sections_hide}
use Rattle.vx_table.specs.Scope.{fresh, is_set, loaded, natural, value}
use Rattle.vx_table.specs.Forms.{after, coding_at, form_of, has_value, limits_at, one_field, part, present, turns}
use Rattle.vx_table.specs.Kept.{kept_along}
use Rattle.vx_table.specs.Loaded.{number}
use Rattle.vx_table.specs.Parts.{Section, sections_form}
use Rattle.vx_table.specs.Spelling.{HasCode, fault_of, item_of, items_along}
use Rattle.vx_table.specs.Values.{Follows, through}
use Rattle.vx_table.specs.Depends.{Agree, has}
use Rattle.vx_table.specs.Rewrites.{Takes}
use Rattle.vx_table.proofs.Again.{follows_again, sections_show}
use Rattle.vx_table.proofs.Agreeing.{inside_itself}
use Rattle.vx_table.proofs.Chains.{structure_depends_only_on}
use Rattle.vx_table.proofs.Groups.{Onward, agree_given, copied_first, copied_group, replaced_first, takes_at}
use Rattle.vx_table.proofs.Loading.{tables_load}
use Rattle.vx_table.proofs.Shown.{scopes_follow_items}
use Rattle.vx_table.proofs.Rewrites.{leaves_agree, sections_leave, values_take}
use Rattle.vx_pps.specs.Pps.{after_slices}
use Rattle.vx_pps.specs.Reshaped.{frame_tool_items, info_items, items_of_source, taken_for_region}
use Rattle.vx_table.specs.Rewritten.{where_so}
use Rattle.vx_pps.specs.Written.{only_item}
use Rattle.vx_pps.proofs.Alike.{kept_alike}
use Rattle.vx_pps.proofs.Testing.{block_loads, control_block, dbf_given, dbf_control, dbf_control_taken, dbf_info, dbf_info_read, dbf_info_replaced, dbf_offsets, dbf_offsets_taken, end, end_taken, header_info, header_info_read, header_info_replaced, info_given, init_qp, init_qp_read, init_qp_replaced, names, numbered, prediction, prediction_taken, qp_offsets, qp_offsets_taken, tool_names, tools_read, tools_shown, override, override_stands, from_dbf, from_info, info_stands, whole}
use Rattle.vx_pps.specs.declared.tables.TheConstants as tables

-- ---- of a region

-- they go again where the picture is as before partitioned or not
pub tools_again : {s t : List ℕ} {values : List ℤ} {last : List ℕ} → Agree whole s t → Follows (sections_form after_slices s) values last → GoesToo whole (sections_form after_slices s) (sections_form after_slices t) values last
tools_again {s} {t} {values} {last} agree follows =
    let alike = (structure_depends_only_on (pps.pps_no_pic_partition_flag ∷ []) (tool_names ++ taken_for_region) after_slices tools_read.0).alike s t agree in
    let all = sections_show tools_shown after_slices tools_read.1 in
    follows_again tools_shown whole (sections_form after_slices s) (sections_form after_slices t) values last alike (all.at s) (all.at t) follows

-- and they keep the same
pub tools_keep : {s t : List ℕ} {values : List ℤ} {last other : List ℕ} → Agree whole s t → Follows (sections_form after_slices s) values last → Follows (sections_form after_slices t) values other
    → kept_along (sections_form after_slices s) values ≡ kept_along (sections_form after_slices t) values
tools_keep {s} {t} {values} {last} {other} agree follows again =
    let alike = (structure_depends_only_on (pps.pps_no_pic_partition_flag ∷ []) (tool_names ++ taken_for_region) after_slices tools_read.0).alike s t agree in
    let all = sections_show tools_shown after_slices tools_read.1 in
    kept_alike alike (all.at s) (all.at t) follows again

-- ---- of a frame: what stands in place of its fields

-- the QP has a code, and is in its range
le_pos : (n m : ℕ) → pos n ≤ℤ pos m → n ≤ m
le_pos n m h = omega (arith, ints, h)

le_neg : (n m : ℕ) → negsuc m ≤ℤ negsuc n → n ≤ m
le_neg n m h = omega (arith, ints, h)

qp_code : (v : ℤ) → neg_ℤ (pos 38) ≤ℤ v → v ≤ℤ pos 37 → IsCodeNumber (code_number v)
qp_code (pos zero) low high = omega arith
qp_code (pos (suc n)) low high = omega (arith, le_pos (suc n) 37 high)
qp_code (negsuc n) low high = omega (arith, le_neg n 37 low)

qp_range : (v : ℤ) → neg_ℤ (pos 38) ≤ℤ v → v ≤ℤ pos 37 → fault_of (Within (neg_ℤ (pos 38)) 37 OutOfRange) v ≡ None
unfolding fault_of
qp_range (pos n) low high =
    let upto : leb n 37 ≡ true = le-leb n 37 (le_pos n 37 high) in
    rw upto refl
qp_range (negsuc n) low high =
    let upto : leb n 37 ≡ true = le-leb n 37 (le_neg n 37 low) in
    rw upto refl

qp_at : (v : ℤ) → neg_ℤ (pos 38) ≤ℤ v → v ≤ℤ pos 37 → Takes (sections_form init_qp fresh) (only_item pps.pps_init_qp_minus26 v)
unfolding fresh sections_form form_of part one_field after present turns value natural coding_at limits_at has_value HasCode fault_of item_of
qp_at v low high = values_take (sections_form init_qp fresh) (v ∷ []) _ (record { code = qp_code v low high; range = qp_range v low high }, tt) refl

dbf_at : (n v : ℕ) → n < 2 → v < 2 → Takes (sections_form dbf_info (slice_set fresh pps.pps_deblocking_filter_override_enabled_flag n)) (where_so (is_set n) (only_item pps.pps_dbf_info_in_ph_flag (pos v)))
unfolding fresh sections_form form_of part one_field after present turns value natural coding_at limits_at has_value HasCode fault_of item_of
dbf_at zero v few low = values_take (sections_form dbf_info (slice_set fresh pps.pps_deblocking_filter_override_enabled_flag 0)) (pos 0 ∷ []) _ (record { code = refl; range = refl }, tt) refl
dbf_at (suc zero) v few low = values_take (sections_form dbf_info (slice_set fresh pps.pps_deblocking_filter_override_enabled_flag 1)) (pos v ∷ []) _ (record { code = low; range = refl }, tt) refl
dbf_at (suc (suc n)) v few low = absurd (omega arith)

weights_at : ℕ → ℕ → List ℕ
weights_at a b = slice_set (slice_set fresh pps.pps_weighted_pred_flag a) pps.pps_weighted_bipred_flag b

-- with a field for weights, and without
abbrev pub info_stated : Bool → ℕ → ℕ → ℕ → List Item
info_stated weighted lists sao weights =
    only_item pps.pps_rpl_info_in_ph_flag (pos lists)
    ++ (only_item pps.pps_sao_info_in_ph_flag (pos sao)
    ++ (only_item pps.pps_alf_info_in_ph_flag (pos 0)
    ++ (where_so weighted (only_item pps.pps_wp_info_in_ph_flag (pos weights))
    ++ only_item pps.pps_qp_delta_info_in_ph_flag (pos 0))))

info_at : (a b lists sao weights : ℕ) → a < 2 → b < 2 → lists < 2 → sao < 2 → weights < 2
    → Takes (sections_form header_info (weights_at a b)) (info_stated ((is_set a || is_set b) && is_set lists) lists sao weights)
unfolding weights_at fresh sections_form form_of part one_field after present turns value natural coding_at limits_at has_value HasCode fault_of item_of
info_at zero zero zero sao weights la lb ll ls lw =
    values_take (sections_form header_info (weights_at 0 0)) (pos 0 ∷ pos sao ∷ pos 0 ∷ pos 0 ∷ pos 0 ∷ []) _
    (record { code = ll; range = refl }, (record { code = ls; range = refl }, (record { code = omega arith; range = refl }, (record { code = refl; range = refl }, (record { code = omega arith; range = refl }, tt))))) refl
info_at zero zero (suc zero) sao weights la lb ll ls lw =
    values_take (sections_form header_info (weights_at 0 0)) (pos 1 ∷ pos sao ∷ pos 0 ∷ pos 0 ∷ pos 0 ∷ []) _
    (record { code = ll; range = refl }, (record { code = ls; range = refl }, (record { code = omega arith; range = refl }, (record { code = refl; range = refl }, (record { code = omega arith; range = refl }, tt))))) refl
info_at zero (suc zero) zero sao weights la lb ll ls lw =
    values_take (sections_form header_info (weights_at 0 1)) (pos 0 ∷ pos sao ∷ pos 0 ∷ pos 0 ∷ pos 0 ∷ []) _
    (record { code = ll; range = refl }, (record { code = ls; range = refl }, (record { code = omega arith; range = refl }, (record { code = refl; range = refl }, (record { code = omega arith; range = refl }, tt))))) refl
info_at zero (suc zero) (suc zero) sao weights la lb ll ls lw =
    values_take (sections_form header_info (weights_at 0 1)) (pos 1 ∷ pos sao ∷ pos 0 ∷ pos weights ∷ pos 0 ∷ []) _
    (record { code = ll; range = refl }, (record { code = ls; range = refl }, (record { code = omega arith; range = refl }, (record { code = lw; range = refl }, (record { code = omega arith; range = refl }, tt))))) refl
info_at (suc zero) zero zero sao weights la lb ll ls lw =
    values_take (sections_form header_info (weights_at 1 0)) (pos 0 ∷ pos sao ∷ pos 0 ∷ pos 0 ∷ pos 0 ∷ []) _
    (record { code = ll; range = refl }, (record { code = ls; range = refl }, (record { code = omega arith; range = refl }, (record { code = refl; range = refl }, (record { code = omega arith; range = refl }, tt))))) refl
info_at (suc zero) zero (suc zero) sao weights la lb ll ls lw =
    values_take (sections_form header_info (weights_at 1 0)) (pos 1 ∷ pos sao ∷ pos 0 ∷ pos weights ∷ pos 0 ∷ []) _
    (record { code = ll; range = refl }, (record { code = ls; range = refl }, (record { code = omega arith; range = refl }, (record { code = lw; range = refl }, (record { code = omega arith; range = refl }, tt))))) refl
info_at (suc zero) (suc zero) zero sao weights la lb ll ls lw =
    values_take (sections_form header_info (weights_at 1 1)) (pos 0 ∷ pos sao ∷ pos 0 ∷ pos 0 ∷ pos 0 ∷ []) _
    (record { code = ll; range = refl }, (record { code = ls; range = refl }, (record { code = omega arith; range = refl }, (record { code = refl; range = refl }, (record { code = omega arith; range = refl }, tt))))) refl
info_at (suc zero) (suc zero) (suc zero) sao weights la lb ll ls lw =
    values_take (sections_form header_info (weights_at 1 1)) (pos 1 ∷ pos sao ∷ pos 0 ∷ pos weights ∷ pos 0 ∷ []) _
    (record { code = ll; range = refl }, (record { code = ls; range = refl }, (record { code = omega arith; range = refl }, (record { code = lw; range = refl }, (record { code = omega arith; range = refl }, tt))))) refl
info_at (suc (suc a)) b lists sao weights la lb ll ls lw = absurd (omega arith)
info_at zero (suc (suc b)) lists sao weights la lb ll ls lw = absurd (omega arith)
info_at (suc zero) (suc (suc b)) lists sao weights la lb ll ls lw = absurd (omega arith)
info_at zero zero (suc (suc l)) sao weights la lb ll ls lw = absurd (omega arith)
info_at zero (suc zero) (suc (suc l)) sao weights la lb ll ls lw = absurd (omega arith)
info_at (suc zero) zero (suc (suc l)) sao weights la lb ll ls lw = absurd (omega arith)
info_at (suc zero) (suc zero) (suc (suc l)) sao weights la lb ll ls lw = absurd (omega arith)

-- ---- of a frame: the tools

-- flags of a set
pub record HasFlags (source : List Item) : Type 0 where
  pub weighted : number source pps.pps_weighted_pred_flag < 2
  pub biweighted : number source pps.pps_weighted_bipred_flag < 2
  pub override : number source pps.pps_deblocking_filter_override_enabled_flag < 2
  pub dbf : number source pps.pps_dbf_info_in_ph_flag < 2
  pub lists : number source pps.pps_rpl_info_in_ph_flag < 2
  pub sao : number source pps.pps_sao_info_in_ph_flag < 2
  pub weights : number source pps.pps_wp_info_in_ph_flag < 2

zero_is : {t : List ℕ} → Agree whole fresh t → 0 ≡ slice_index t pps.pps_no_pic_partition_flag
unfolding fresh
zero_is empty = empty.same pps.pps_no_pic_partition_flag refl

module _ (source : List Item) (qp : ℤ) (low : neg_ℤ (pos 38) ≤ℤ qp) (high : qp ≤ℤ pos 37) (flags : HasFlags source) {last : List ℕ} (told : (n : ℕ) → IsTrue (has numbered n) → slice_index last n ≡ number source n)
    (overridden : slice_index last pps.pps_deblocking_filter_override_enabled_flag ≡ number source pps.pps_deblocking_filter_override_enabled_flag) where
  -- a number that a replaced group reads is the source's
  reads : (rest : List Section) {s t : List ℕ} {values : List ℤ} → sections_hide numbered rest ≡ true → Follows (sections_form rest s) values last → Agree (names true) s t → (n : ℕ) → IsTrue (has numbered n) → IsTrue (has (names true) n)
      → number source n ≡ slice_index t n
  reads rest {s} {t} {values} hide follows agree n is_told is_taken =
      sym (told n is_told) ∙ sym ((leaves_agree numbered (sections_form rest) s values last (sections_leave numbered rest hide) follows).same n is_told) ∙ agree.same n is_taken

  override_reads : {s t : List ℕ} {values : List ℤ} → Follows (sections_form from_dbf s) values last → Agree (names true) s t
      → number source pps.pps_deblocking_filter_override_enabled_flag ≡ slice_index t pps.pps_deblocking_filter_override_enabled_flag
  unfolding fresh
  override_reads {s} {t} {values} follows agree =
      sym overridden ∙ sym ((leaves_agree override (sections_form from_dbf) s values last (sections_leave override from_dbf override_stands.2) follows).same pps.pps_deblocking_filter_override_enabled_flag refl)
      ∙ agree.same pps.pps_deblocking_filter_override_enabled_flag refl

  from_end : Onward (names true) whole end last []
  from_end s w follows = copied_group (names true) whole end end_taken.0 end_taken.1 follows

  info_goes : (s t : List ℕ) (w : List ℤ) → Follows (sections_form from_info s) w last → Agree (names true) s t → Agree whole fresh t → Takes (sections_form header_info t) (info_items source)
  unfolding fresh weights_at
  info_goes s t w follows agree empty =
      let a : ℕ = number source pps.pps_weighted_pred_flag in
      let b : ℕ = number source pps.pps_weighted_bipred_flag in
      takes_at info_given header_info (weights_at a b) t header_info_read.0 header_info_read.1
      (agree_given info_given empty.size (zero_is empty, (reads from_info info_stands follows agree pps.pps_weighted_pred_flag refl refl, (reads from_info info_stands follows agree pps.pps_weighted_bipred_flag refl refl, tt))))
      (info_at a b (number source pps.pps_rpl_info_in_ph_flag) (number source pps.pps_sao_info_in_ph_flag) (number source pps.pps_wp_info_in_ph_flag) flags.weighted flags.biweighted flags.lists flags.sao flags.weights)

  from_headers : Onward (names true) whole from_info last (info_items source)
  from_headers =
      subst (λ xs. Onward (names true) whole from_info last xs) (append-nil (info_items source))
      (replaced_first (names true) whole whole header_info end (inside_itself whole) header_info_replaced.0 header_info_replaced.1 info_goes from_end)

  dbf_goes : (s t : List ℕ) (w : List ℤ) → Follows (sections_form from_dbf s) w last → Agree (names true) s t → Agree whole fresh t
      → Takes (sections_form dbf_info t) (where_so (is_set (number source pps.pps_deblocking_filter_override_enabled_flag)) (items_of_source source pps.pps_dbf_info_in_ph_flag))
  unfolding fresh
  dbf_goes s t w follows agree empty =
      let n : ℕ = number source pps.pps_deblocking_filter_override_enabled_flag in
      takes_at dbf_given dbf_info (slice_set fresh pps.pps_deblocking_filter_override_enabled_flag n) t dbf_info_read.0 dbf_info_read.1
      (agree_given dbf_given empty.size (zero_is empty, (override_reads follows agree, tt)))
      (dbf_at n (number source pps.pps_dbf_info_in_ph_flag) flags.override flags.dbf)

  from_deblocking : Onward (names true) whole from_dbf last (where_so (is_set (number source pps.pps_deblocking_filter_override_enabled_flag)) (items_of_source source pps.pps_dbf_info_in_ph_flag) ++ info_items source)
  from_deblocking =
      replaced_first (names true) whole whole dbf_info (dbf_offsets ++ from_info) (inside_itself whole) dbf_info_replaced.0 dbf_info_replaced.1 dbf_goes
      (copied_first (names true) whole dbf_offsets from_info dbf_offsets_taken.0 dbf_offsets_taken.1 dbf_offsets_taken.3 from_headers)

  pub frame_tools : Onward (names true) whole after_slices last (frame_tool_items source qp)
  frame_tools =
      copied_first (names true) whole prediction (init_qp ++ (qp_offsets ++ (dbf_control ++ from_dbf))) prediction_taken.0 prediction_taken.1 prediction_taken.3
      (replaced_first (names true) whole whole init_qp (qp_offsets ++ (dbf_control ++ from_dbf)) (inside_itself whole) init_qp_replaced.0 init_qp_replaced.1
      (λ s t w follows agree empty. takes_at [] init_qp fresh t init_qp_read.0 init_qp_read.1 (agree_given [] empty.size tt) (qp_at qp low high))
      (copied_first (names true) whole qp_offsets (dbf_control ++ from_dbf) qp_offsets_taken.0 qp_offsets_taken.1 qp_offsets_taken.3
      (copied_first (names true) whole dbf_control from_dbf dbf_control_taken.0 dbf_control_taken.1 dbf_control_taken.3 from_deblocking)))

-- ---- a field whose number is set to 0 before it

zero_at : (s : List ℕ) (n : ℕ) → slice_index (slice_set s n 0) n ≡ 0
zero_at s n = elim (cases_lt n (length s)) [
  | inl within ↦ get_or-set_same s n 0 0 within
  | inr past ↦ ap (λ xs. slice_index xs n) (set_past s n 0 past) ∙ get_or_past s n 0 past
]

-- what the table gives it is what its item does
pub control_loads : (t : List ℕ) {values : List ℤ} {last : List ℕ} → slice_index t pps.pps_deblocking_filter_override_enabled_flag ≡ 0 → Follows (form_of tables.DBF_CONTROL t) values last
    → slice_index last pps.pps_deblocking_filter_override_enabled_flag ≡ slice_index (loaded t (items_along (form_of tables.DBF_CONTROL t) values)) pps.pps_deblocking_filter_override_enabled_flag
unfolding fresh form_of part one_field value has_value after item_of coding_at
control_loads t none (through {v} {w} {a} is on) =
    let first : List ℕ = slice_set t pps.pps_deblocking_filter_control_present_flag (natural v) in
    let set : List ℕ = slice_set (slice_set first pps.pps_deblocking_filter_override_enabled_flag 0) pps.pps_deblocking_filter_disabled_flag 0 in
    let behind : Agree override (loaded set (items_along (form_of control_block set) w)) a = (tables_load override control_block block_loads).at set w a on in
    let apart : pps.pps_deblocking_filter_override_enabled_flag ≢ pps.pps_deblocking_filter_control_present_flag = λ e. absurd (omega (arith, e)) in
    let aside : pps.pps_deblocking_filter_override_enabled_flag ≢ pps.pps_deblocking_filter_disabled_flag = λ e. absurd (omega (arith, e)) in
    let agree : Agree override first set = agree_given (pps.pps_deblocking_filter_override_enabled_flag ∷ []) (sym (length-set (slice_set first pps.pps_deblocking_filter_override_enabled_flag 0) pps.pps_deblocking_filter_disabled_flag 0 ∙ length-set first pps.pps_deblocking_filter_override_enabled_flag 0)) (
      get_or-set_other t pps.pps_deblocking_filter_control_present_flag pps.pps_deblocking_filter_override_enabled_flag (natural v) 0 apart ∙ none
          ∙ sym (get_or-set_other (slice_set first pps.pps_deblocking_filter_override_enabled_flag 0) pps.pps_deblocking_filter_disabled_flag pps.pps_deblocking_filter_override_enabled_flag 0 0 aside
          ∙ zero_at first pps.pps_deblocking_filter_override_enabled_flag),
      tt,
    ) in
    sym (behind.same pps.pps_deblocking_filter_override_enabled_flag refl)
    ∙ sym ((scopes_follow_items override first set (items_along (form_of control_block set) w) (items_along (form_of control_block set) w) agree refl).same pps.pps_deblocking_filter_override_enabled_flag refl)
