-- The set for a frame keeps what its source keeps: what is taken over, and four flags of picture headers by their numbers.
use Rattle.std.proofs.Common.{◌≡◌, ℕ, ℤ, pos, ◌<◌, ◌||◌, ◌&&◌, Bool, true, false, IsTrue, IsFalse, List, [], ◌∷◌, ◌++◌, length, slice_index, sym, ap, ◌∙◌, subst, inl, inr, arith, refl, append_assoc}
use Rattle.std.specs.Prelude.{not}
use Rattle.std.proofs.lemmas.Bool.{and_parts, cases_Bool, cases_eq, ne_eqb}
use Rattle.std.proofs.lemmas.List.{append-nil}
use Rattle.std.proofs.lemmas.List.Elements.{filter-append}
use Rattle.vx_bits.specs.declared.list.Item.{Item}
use Rattle.vx_fields.specs.declared.pps.TheConstants as pps
use Rattle.vx_table.specs.Claims.{hides_row}
use Rattle.vx_table.specs.Depends.{Agree, Inside, has}
use Rattle.vx_table.specs.EachField.{sections_pass}
use Rattle.vx_table.specs.Kept.{kept_along}
use Rattle.vx_table.specs.Loaded.{number}
use Rattle.vx_table.specs.Parts.{Section, sections_form}
use Rattle.vx_table.specs.Rewritten.{other_items}
use Rattle.vx_table.specs.Scope.{fresh, is_set, natural}
use Rattle.vx_table.specs.Shown.{shown_items}
use Rattle.vx_table.specs.Spelling.{items_along}
use Rattle.vx_table.specs.Values.{Follows, Parted}
use Rattle.vx_table.proofs.Agreeing.{inside_itself, others_too}
use Rattle.vx_table.proofs.Groups.{cut, inside_nothing}
use Rattle.vx_table.proofs.Keeping.{rewritten_keeps, sections_fill_none, shown_of_shown}
use Rattle.vx_table.proofs.Loading.{number_of_last, number_of_shown}
use Rattle.vx_table.proofs.Rewrites.{leaves_agree, sections_leave}
use Rattle.vx_table.proofs.Starred.{structure_keeps_only}
use Rattle.vx_pps.specs.declared.partition.Partition.{Partition}
use Rattle.vx_pps.specs.declared.shape.PpsShape.{PpsShape}
use Rattle.vx_pps.specs.Pps.{before_tiles, kept_pps_items, after_slices}
use Rattle.vx_pps.specs.Reshaped.{FrameKeeps, frame_tool_items, front_items, has_weights, whole_flag}
use Rattle.vx_table.specs.Rewritten.{where_so}
use Rattle.vx_pps.specs.Written.{only_item}
use Rattle.vx_pps.proofs.Cutting.{Clear, Parts, clear_from, cut_items, cut_parts, division_unshown, flag_below, none_shown, number_by_others, numbers_told, override_told, sections_unshown}
use Rattle.vx_pps.proofs.Flags.{flag_items, dbf_kept, info_kept}
use Rattle.vx_pps.proofs.Giving.{natural_is}
use Rattle.vx_pps.proofs.Keeping.{cut_kept, kept_put}
use Rattle.vx_pps.proofs.Reshaping.{NoneOf, flags_of, no_item, no_more, none_where}
use Rattle.vx_pps.proofs.Testing.{IsAside, IsRun, before_dbf, dbf_aside, dbf_flag, dbf_info, dbf_offsets, dbf_stands, early, early_aside, early_fields, early_run, end, end_aside, end_fields, end_run, flags_are, from_dbf, from_info, front_aside, front_fields, front_run, header_info, info_aside, info_flags, info_stands, is_inside, names, numbered, offsets_aside, offsets_fields, offsets_run, override, override_stands, tools_early}

-- ---- one set within another

pub inside_all : (more xs : List ℕ) → is_inside more xs ≡ true → Inside xs more
inside_all more [] is = inside_nothing more
inside_all more (x ∷ xs) is =
    let parts = and_parts (has more x) (is_inside more xs) is in
    record {
      has_too = λ n h. elim (cases_eq n x) [
        | inl same ↦ subst (λ m. IsTrue (has more m)) (sym same) parts.0
        | inr other ↦ (inside_all more xs parts.1).has_too n (others_too xs x n other h)
      ];
    }

-- ---- shown items of parts

pub unshown_first : (set : List ℕ) (a b : List Item) → shown_items set a ≡ [] → shown_items set (a ++ b) ≡ shown_items set b
unshown_first set a b none = filter-append (λ x. has set x.field) a b ∙ ap (λ xs. xs ++ shown_items set b) none

pub unshown_behind : (set : List ℕ) (a b : List Item) → shown_items set b ≡ [] → shown_items set (a ++ b) ≡ shown_items set a
unshown_behind set a b none = filter-append (λ x. has set x.field) a b ∙ ap (λ xs. shown_items set a ++ xs) none ∙ append-nil (shown_items set a)

-- ---- a structure cut in two: what it shows and keeps

module _ (first more : List Section) (s : List ℕ) {values : List ℤ} {last : List ℕ} (q : Parted (sections_form first s) (sections_form more) values last) where
  both_items : items_along (sections_form (first ++ more) s) values ≡ items_along (sections_form first s) q.front ++ items_along (sections_form more q.mid) q.others
  both_items = ap (items_along (sections_form (first ++ more) s)) q.all ∙ cut_items first more s q.others q.first

  both_kept : kept_along (sections_form (first ++ more) s) values ≡ kept_along (sections_form first s) q.front ++ kept_along (sections_form more q.mid) q.others
  both_kept = ap (kept_along (sections_form (first ++ more) s)) q.all ∙ cut_kept first more s q.others q.first

  pub shows_first : (set : List ℕ) → sections_pass (hides_row set) more ≡ true → shown_items set (items_along (sections_form (first ++ more) s) values) ≡ shown_items set (items_along (sections_form first s) q.front)
  shows_first set hides =
      ap (shown_items set) both_items
      ∙ unshown_behind set (items_along (sections_form first s) q.front) (items_along (sections_form more q.mid) q.others) (none_shown set (sections_unshown set more q.mid hides) q.second)

  pub shows_more : (set : List ℕ) → sections_pass (hides_row set) first ≡ true → shown_items set (items_along (sections_form (first ++ more) s) values) ≡ shown_items set (items_along (sections_form more q.mid) q.others)
  shows_more set hides =
      ap (shown_items set) both_items
      ∙ unshown_first set (items_along (sections_form first s) q.front) (items_along (sections_form more q.mid) q.others) (none_shown set (sections_unshown set first s hides) q.first)

-- ---- the parts of a set

flags_clear : Clear dbf_flag × Clear info_flags
flags_clear = (clear_from (pps.pps_dbf_info_in_ph_flag ∷ []) refl, clear_from (pps.pps_rpl_info_in_ph_flag ∷ pps.pps_sao_info_in_ph_flag ∷ pps.pps_wp_info_in_ph_flag ∷ []) refl)

module _ {items : List Item} {end_ : Partition} (p : Parts items end_) where
  pub from_front : (set : List ℕ) → Clear set → sections_pass (hides_row set) after_slices ≡ true → shown_items set items ≡ shown_items set (items_along (sections_form before_tiles fresh) p.first.values)
  from_front set clear hides =
      let none_division = (division_unshown set p.scope clear p.second).0 in
      let none_tools : shown_items set p.tool_items ≡ [] = ap (shown_items set) (sym p.third.given) ∙ none_shown set (sections_unshown set after_slices p.scope hides) p.third.follows in
      ap (shown_items set) p.all ∙ unshown_behind set p.front_items (p.division ++ p.tool_items) (unshown_first set p.division p.tool_items none_division ∙ none_tools) ∙ ap (shown_items set) (sym p.first.given)

  from_tools : (set : List ℕ) → Clear set → sections_pass (hides_row set) before_tiles ≡ true → shown_items set items ≡ shown_items set (items_along (sections_form after_slices p.scope) p.third.values)
  from_tools set clear hides =
      let none_division = (division_unshown set p.scope clear p.second).0 in
      let none_front : shown_items set p.front_items ≡ [] = ap (shown_items set) (sym p.first.given) ∙ none_shown set (sections_unshown set before_tiles fresh hides) p.first.follows in
      ap (shown_items set) p.all ∙ unshown_first set p.front_items (p.division ++ p.tool_items) none_front ∙ unshown_first set p.division p.tool_items none_division ∙ ap (shown_items set) (sym p.third.given)

  -- the tools cut before and behind each of the two tables
  pub at_dbf : Parted (sections_form before_dbf p.scope) (sections_form from_dbf) p.third.values p.last
  at_dbf = cut before_dbf from_dbf p.scope p.third.follows

  pub at_offsets : Parted (sections_form dbf_info at_dbf.mid) (sections_form (dbf_offsets ++ from_info)) at_dbf.others p.last
  at_offsets = cut dbf_info (dbf_offsets ++ from_info) at_dbf.mid at_dbf.second

  pub at_info : Parted (sections_form dbf_offsets at_offsets.mid) (sections_form from_info) at_offsets.others p.last
  at_info = cut dbf_offsets from_info at_offsets.mid at_offsets.second

  pub at_end : Parted (sections_form header_info at_info.mid) (sections_form end) at_info.others p.last
  at_end = cut header_info end at_info.mid at_info.second

  pub kept_runs : kept_along (sections_form after_slices p.scope) p.third.values
      ≡ kept_along (sections_form before_dbf p.scope) at_dbf.front ++ (kept_along (sections_form dbf_info at_dbf.mid) at_offsets.front ++ (kept_along (sections_form dbf_offsets at_offsets.mid) at_info.front
      ++ (kept_along (sections_form header_info at_info.mid) at_end.front ++ kept_along (sections_form end at_end.mid) at_end.others)))
  kept_runs =
      both_kept before_dbf from_dbf p.scope at_dbf
      ∙ ap (λ k. kept_along (sections_form before_dbf p.scope) at_dbf.front ++ k) (both_kept dbf_info (dbf_offsets ++ from_info) at_dbf.mid at_offsets
      ∙ ap (λ k. kept_along (sections_form dbf_info at_dbf.mid) at_offsets.front ++ k) (both_kept dbf_offsets from_info at_offsets.mid at_info
      ∙ ap (λ k. kept_along (sections_form dbf_offsets at_offsets.mid) at_info.front ++ k) (both_kept header_info end at_info.mid at_end)))

  -- a set's shown items, by the run that has them
  pub from_early : (set : List ℕ) → Clear set → IsAside set before_tiles → IsAside set from_dbf → shown_items set items ≡ shown_items set (items_along (sections_form before_dbf p.scope) at_dbf.front)
  from_early set clear a b = from_tools set clear a ∙ shows_first before_dbf from_dbf p.scope at_dbf set b

  from_table : (set : List ℕ) → Clear set → IsAside set before_tiles → IsAside set before_dbf → shown_items set items ≡ shown_items set (items_along (sections_form from_dbf at_dbf.mid) at_dbf.others)
  from_table set clear a b = from_tools set clear a ∙ shows_more before_dbf from_dbf p.scope at_dbf set b

  pub from_rest : (set : List ℕ) → Clear set → IsAside set before_tiles → IsAside set before_dbf → IsAside set dbf_info
      → shown_items set items ≡ shown_items set (items_along (sections_form (dbf_offsets ++ from_info) at_offsets.mid) at_offsets.others)
  from_rest set clear a b c = from_table set clear a b ∙ shows_more dbf_info (dbf_offsets ++ from_info) at_dbf.mid at_offsets set c

  pub from_headers : (set : List ℕ) → Clear set → IsAside set before_tiles → IsAside set before_dbf → IsAside set dbf_info → IsAside set dbf_offsets
      → shown_items set items ≡ shown_items set (items_along (sections_form from_info at_info.mid) at_info.others)
  from_headers set clear a b c d = from_rest set clear a b c ∙ shows_more dbf_offsets from_info at_offsets.mid at_info set d

  -- ---- the numbers of the flags, in their tables

  dbf_number : number items pps.pps_dbf_info_in_ph_flag ≡ number (items_along (sections_form dbf_info at_dbf.mid) at_offsets.front) pps.pps_dbf_info_in_ph_flag
  unfolding fresh
  dbf_number =
      let of : ℕ = pps.pps_dbf_info_in_ph_flag in
      let here : List Item = items_along (sections_form dbf_info at_dbf.mid) at_offsets.front in
      let shown : shown_items dbf_flag items ≡ shown_items dbf_flag here = from_table dbf_flag flags_clear.0 dbf_aside.0 dbf_aside.1 ∙ shows_first dbf_info (dbf_offsets ++ from_info) at_dbf.mid at_offsets dbf_flag dbf_aside.2 in
      number_of_shown dbf_flag of items refl ∙ ap (λ xs. number xs of) shown ∙ sym (number_of_shown dbf_flag of here refl)

  info_number : (of : ℕ) → IsTrue (has info_flags of) → number items of ≡ number (items_along (sections_form header_info at_info.mid) at_end.front) of
  info_number of is =
      let here : List Item = items_along (sections_form header_info at_info.mid) at_end.front in
      let shown : shown_items info_flags items ≡ shown_items info_flags here =
      from_headers info_flags flags_clear.1 info_aside.0 info_aside.1 info_aside.2 info_aside.3 ∙ shows_first header_info end at_info.mid at_end info_flags info_aside.4 in
      number_of_shown info_flags of items is ∙ ap (λ xs. number xs of) shown ∙ sym (number_of_shown info_flags of here is)

  -- ---- and the scopes that the tables read

  all_long : length fresh ≡ length p.last
  all_long = (leaves_agree override (sections_form before_tiles) fresh p.first.values p.scope (sections_leave override before_tiles override_stands.0) p.first.follows).size
      ∙ (leaves_agree early (sections_form after_slices) p.scope p.third.values p.last (sections_leave early after_slices tools_early) p.third.follows).size

  dbf_scope : Agree numbered at_dbf.mid p.last
  dbf_scope = leaves_agree numbered (sections_form from_dbf) at_dbf.mid at_dbf.others p.last (sections_leave numbered from_dbf dbf_stands) at_dbf.second

  info_scope : Agree numbered at_info.mid p.last
  info_scope = leaves_agree numbered (sections_form from_info) at_info.mid at_info.others p.last (sections_leave numbered from_info info_stands) at_info.second

  pub dbf_keeps : (kept_along (sections_form dbf_info at_dbf.mid) at_offsets.front ≡ only_item pps.pps_dbf_info_in_ph_flag (pos (number items pps.pps_dbf_info_in_ph_flag)))
      × (number items pps.pps_deblocking_filter_override_enabled_flag ≡ 0 → number items pps.pps_dbf_info_in_ph_flag ≡ 0)
  unfolding fresh
  dbf_keeps =
      let whole_is : slice_index at_dbf.mid pps.pps_no_pic_partition_flag ≡ number items pps.pps_no_pic_partition_flag = dbf_scope.same pps.pps_no_pic_partition_flag refl ∙ numbers_told p pps.pps_no_pic_partition_flag refl in
      let over : slice_index at_dbf.mid pps.pps_deblocking_filter_override_enabled_flag ≡ number items pps.pps_deblocking_filter_override_enabled_flag =
      (leaves_agree override (sections_form from_dbf) at_dbf.mid at_dbf.others p.last (sections_leave override from_dbf override_stands.2) at_dbf.second).same pps.pps_deblocking_filter_override_enabled_flag refl ∙ override_told p in
      let k = dbf_kept at_dbf.mid (all_long ∙ sym dbf_scope.size) (subst (λ n. n < 2) (sym whole_is) (flag_below p pps.pps_no_pic_partition_flag flags_are.0 (λ low high. omega (arith, low))))
      (subst (λ n. n < 2) (sym over) (flag_below p pps.pps_deblocking_filter_override_enabled_flag flags_are.3 (λ low high. omega (arith, high)))) at_offsets.first in
      (k.kept_is ∙ ap (λ n. only_item pps.pps_dbf_info_in_ph_flag (pos n)) (sym dbf_number), λ none. dbf_number ∙ k.none (over ∙ none))

  pub info_keeps : (kept_along (sections_form header_info at_info.mid) at_end.front ≡ flag_items (number items pps.pps_rpl_info_in_ph_flag) (number items pps.pps_sao_info_in_ph_flag) (number items pps.pps_wp_info_in_ph_flag))
      × (has_weights items ≡ false → number items pps.pps_wp_info_in_ph_flag ≡ 0)
  unfolding fresh
  info_keeps =
      let whole_is : slice_index at_info.mid pps.pps_no_pic_partition_flag ≡ number items pps.pps_no_pic_partition_flag = info_scope.same pps.pps_no_pic_partition_flag refl ∙ numbers_told p pps.pps_no_pic_partition_flag refl in
      let a : slice_index at_info.mid pps.pps_weighted_pred_flag ≡ number items pps.pps_weighted_pred_flag = info_scope.same pps.pps_weighted_pred_flag refl ∙ numbers_told p pps.pps_weighted_pred_flag refl in
      let b : slice_index at_info.mid pps.pps_weighted_bipred_flag ≡ number items pps.pps_weighted_bipred_flag = info_scope.same pps.pps_weighted_bipred_flag refl ∙ numbers_told p pps.pps_weighted_bipred_flag refl in
      let lists = info_number pps.pps_rpl_info_in_ph_flag refl in
      let sao = info_number pps.pps_sao_info_in_ph_flag refl in
      let weights = info_number pps.pps_wp_info_in_ph_flag refl in
      let k = info_kept at_info.mid (all_long ∙ sym info_scope.size) (subst (λ n. n < 2) (sym whole_is) (flag_below p pps.pps_no_pic_partition_flag flags_are.0 (λ low high. omega (arith, low))))
      (subst (λ n. n < 2) (sym a) (flag_below p pps.pps_weighted_pred_flag flags_are.1 (λ low high. omega (arith, high))))
      (subst (λ n. n < 2) (sym b) (flag_below p pps.pps_weighted_bipred_flag flags_are.2 (λ low high. omega (arith, high)))) at_end.first in (
        k.kept_is ∙ sym (ap (λ n. flag_items n (number items pps.pps_sao_info_in_ph_flag) (number items pps.pps_wp_info_in_ph_flag)) lists
            ∙ ap (λ n. flag_items (number (items_along (sections_form header_info at_info.mid) at_end.front) pps.pps_rpl_info_in_ph_flag) n (number items pps.pps_wp_info_in_ph_flag)) sao
            ∙ ap (λ n. flag_items (number (items_along (sections_form header_info at_info.mid) at_end.front) pps.pps_rpl_info_in_ph_flag) (number (items_along (sections_form header_info at_info.mid) at_end.front) pps.pps_sao_info_in_ph_flag) n) weights),
        λ none. weights ∙ k.none (ap (λ n. (is_set (slice_index at_info.mid pps.pps_weighted_pred_flag) || is_set (slice_index at_info.mid pps.pps_weighted_bipred_flag)) && is_set n) (sym lists)
            ∙ ap (λ n. (is_set n || is_set (slice_index at_info.mid pps.pps_weighted_bipred_flag)) && is_set (number items pps.pps_rpl_info_in_ph_flag)) a
            ∙ ap (λ n. (is_set (number items pps.pps_weighted_pred_flag) || is_set n) && is_set (number items pps.pps_rpl_info_in_ph_flag)) b ∙ none),
      )

-- ---- two sets

pub runs_clear : Clear front_fields × Clear early_fields × Clear offsets_fields × Clear end_fields
runs_clear = (clear_from front_fields refl, clear_from early_fields refl, clear_from offsets_fields refl, clear_from end_fields refl)

-- tables that are taken over keep the same
run_keeps : (fields : List ℕ) (group : List Section) (s t : List ℕ) {v w : List ℤ} {a b : List ℕ} → IsRun fields group → Follows (sections_form group s) v a → Follows (sections_form group t) w b
    → shown_items fields (items_along (sections_form group s) v) ≡ shown_items fields (items_along (sections_form group t) w) → kept_along (sections_form group s) v ≡ kept_along (sections_form group t) w
run_keeps fields group s t {v} {w} {a} {b} run on along same =
    let set : List ℕ = fields in
    let keeps = (structure_keeps_only [] fields group run.1).keeps in
    rewritten_keeps set set (sections_form group s) (sections_form group t) v w a b (inside_itself set) (keeps s) (keeps t) (sections_fill_none group s run.2) (sections_fill_none group t run.2) on along same

module _ {xs ys : List Item} {c d : Partition} (p : Parts xs c) (q : Parts ys d) (same : shown_items (names true) xs ≡ shown_items (names true) ys) where
  -- a set of fewer shows the same
  less : (fields : List ℕ) → is_inside (names true) fields ≡ true → shown_items fields xs ≡ shown_items fields ys
  less fields is =
      let inside : Inside fields (names true) = inside_all (names true) fields is in
      sym (shown_of_shown fields (names true) xs inside) ∙ ap (shown_items fields) same ∙ shown_of_shown fields (names true) ys inside

  front_same : kept_along (sections_form before_tiles fresh) p.first.values ≡ kept_along (sections_form before_tiles fresh) q.first.values
  front_same =
      let set : List ℕ = front_fields in
      run_keeps front_fields before_tiles fresh fresh front_run p.first.follows q.first.follows (sym (from_front p set runs_clear.0 front_aside) ∙ less front_fields front_run.0 ∙ from_front q set runs_clear.0 front_aside)

  early_same : kept_along (sections_form before_dbf p.scope) (at_dbf p).front ≡ kept_along (sections_form before_dbf q.scope) (at_dbf q).front
  early_same =
      let set : List ℕ = early_fields in
      run_keeps early_fields before_dbf p.scope q.scope early_run (at_dbf p).first (at_dbf q).first
      (sym (from_early p set runs_clear.1 early_aside.0 early_aside.1) ∙ less early_fields early_run.0 ∙ from_early q set runs_clear.1 early_aside.0 early_aside.1)

  offsets_same : kept_along (sections_form dbf_offsets (at_offsets p).mid) (at_info p).front ≡ kept_along (sections_form dbf_offsets (at_offsets q).mid) (at_info q).front
  offsets_same =
      let set : List ℕ = offsets_fields in
      let t = offsets_aside in
      run_keeps offsets_fields dbf_offsets (at_offsets p).mid (at_offsets q).mid offsets_run (at_info p).first (at_info q).first
      (sym (from_rest p set runs_clear.2 t.0 t.1 t.2 ∙ shows_first dbf_offsets from_info (at_offsets p).mid (at_info p) set t.3) ∙ less offsets_fields offsets_run.0
      ∙ from_rest q set runs_clear.2 t.0 t.1 t.2 ∙ shows_first dbf_offsets from_info (at_offsets q).mid (at_info q) set t.3)

  end_same : kept_along (sections_form end (at_end p).mid) (at_end p).others ≡ kept_along (sections_form end (at_end q).mid) (at_end q).others
  end_same =
      let set : List ℕ = end_fields in
      let t = end_aside in
      run_keeps end_fields end (at_end p).mid (at_end q).mid end_run (at_end p).second (at_end q).second
      (sym (from_headers p set runs_clear.3 t.0 t.1 t.2 t.3 ∙ shows_more header_info end (at_info p).mid (at_end p) set t.4) ∙ less end_fields end_run.0
      ∙ from_headers q set runs_clear.3 t.0 t.1 t.2 t.3 ∙ shows_more header_info end (at_info q).mid (at_end q) set t.4)

  -- sets with what a frame takes over, and the four flags, keep the same
  same_kept : number xs pps.pps_dbf_info_in_ph_flag ≡ number ys pps.pps_dbf_info_in_ph_flag → number xs pps.pps_rpl_info_in_ph_flag ≡ number ys pps.pps_rpl_info_in_ph_flag
      → number xs pps.pps_sao_info_in_ph_flag ≡ number ys pps.pps_sao_info_in_ph_flag → number xs pps.pps_wp_info_in_ph_flag ≡ number ys pps.pps_wp_info_in_ph_flag → kept_pps_items xs ≡ kept_pps_items ys
  same_kept dbf lists sao weights =
      let a = early_same in
      let b : kept_along (sections_form dbf_info (at_dbf p).mid) (at_offsets p).front ≡ kept_along (sections_form dbf_info (at_dbf q).mid) (at_offsets q).front =
      (dbf_keeps p).0 ∙ ap (λ n. only_item pps.pps_dbf_info_in_ph_flag (pos n)) dbf ∙ sym (dbf_keeps q).0 in
      let e : kept_along (sections_form header_info (at_info p).mid) (at_end p).front ≡ kept_along (sections_form header_info (at_info q).mid) (at_end q).front =
      (info_keeps p).0 ∙ ap (λ n. flag_items n (number xs pps.pps_sao_info_in_ph_flag) (number xs pps.pps_wp_info_in_ph_flag)) lists
      ∙ ap (λ n. flag_items (number ys pps.pps_rpl_info_in_ph_flag) n (number xs pps.pps_wp_info_in_ph_flag)) sao
      ∙ ap (λ n. flag_items (number ys pps.pps_rpl_info_in_ph_flag) (number ys pps.pps_sao_info_in_ph_flag) n) weights ∙ sym (info_keeps q).0 in
      let kept_tools : kept_along (sections_form after_slices p.scope) p.third.values ≡ kept_along (sections_form after_slices q.scope) q.third.values =
      kept_runs p
      ∙ ap (λ k. k ++ (kept_along (sections_form dbf_info (at_dbf p).mid) (at_offsets p).front ++ (kept_along (sections_form dbf_offsets (at_offsets p).mid) (at_info p).front
      ++ (kept_along (sections_form header_info (at_info p).mid) (at_end p).front ++ kept_along (sections_form end (at_end p).mid) (at_end p).others)))) a
      ∙ ap (λ k. kept_along (sections_form before_dbf q.scope) (at_dbf q).front ++ k)
      (ap (λ k. k ++ (kept_along (sections_form dbf_offsets (at_offsets p).mid) (at_info p).front
      ++ (kept_along (sections_form header_info (at_info p).mid) (at_end p).front ++ kept_along (sections_form end (at_end p).mid) (at_end p).others))) b
      ∙ ap (λ k. kept_along (sections_form dbf_info (at_dbf q).mid) (at_offsets q).front ++ k)
      (ap (λ k. k ++ (kept_along (sections_form header_info (at_info p).mid) (at_end p).front ++ kept_along (sections_form end (at_end p).mid) (at_end p).others)) offsets_same
      ∙ ap (λ k. kept_along (sections_form dbf_offsets (at_offsets q).mid) (at_info q).front ++ k)
      (ap (λ k. k ++ kept_along (sections_form end (at_end p).mid) (at_end p).others) e ∙ ap (λ k. kept_along (sections_form header_info (at_info q).mid) (at_end q).front ++ k) end_same)))
      ∙ sym (kept_runs q) in
      ap kept_pps_items p.all ∙ kept_put p.first p.second p.third ∙ ap (λ k. k ++ kept_along (sections_form after_slices p.scope) p.third.values) front_same
      ∙ ap (λ k. kept_along (sections_form before_tiles fresh) q.first.values ++ k) kept_tools ∙ sym (ap kept_pps_items q.all ∙ kept_put q.first q.second q.third)

-- ---- the numbers that a frame's set states

moved : (of : ℕ) (x a b : List Item) → number (x ++ (a ++ b)) of ≡ number ((x ++ a) ++ b) of
moved of x a b = ap (λ xs. number xs of) (sym (append_assoc x a b))

-- the items behind one of them are of later fields
none_weights : (of : ℕ) (weighted : Bool) (weights : ℤ) → of < 465 → NoneOf of (where_so weighted (only_item pps.pps_wp_info_in_ph_flag weights) ++ only_item pps.pps_qp_delta_info_in_ph_flag (pos 0))
none_weights of weighted weights low =
    none_where of pps.pps_wp_info_in_ph_flag weights weighted (only_item pps.pps_qp_delta_info_in_ph_flag (pos 0)) low (no_item of pps.pps_qp_delta_info_in_ph_flag (pos 0) [] (omega (arith, low)) (no_more of))

abbrev behind_sao : Bool → ℤ → List Item
behind_sao weighted weights = only_item pps.pps_alf_info_in_ph_flag (pos 0) ++ (where_so weighted (only_item pps.pps_wp_info_in_ph_flag weights) ++ only_item pps.pps_qp_delta_info_in_ph_flag (pos 0))

none_alf : (of : ℕ) (weighted : Bool) (weights : ℤ) → of < 464 → NoneOf of (behind_sao weighted weights)
none_alf of weighted weights low =
    no_item of pps.pps_alf_info_in_ph_flag (pos 0) (where_so weighted (only_item pps.pps_wp_info_in_ph_flag weights) ++ only_item pps.pps_qp_delta_info_in_ph_flag (pos 0)) low (none_weights of weighted weights (omega (arith, low)))

abbrev behind_lists : Bool → ℤ → ℤ → List Item
behind_lists weighted sao weights = only_item pps.pps_sao_info_in_ph_flag sao ++ behind_sao weighted weights

none_sao : (of : ℕ) (weighted : Bool) (sao weights : ℤ) → of < 463 → NoneOf of (behind_lists weighted sao weights)
none_sao of weighted sao weights low = no_item of pps.pps_sao_info_in_ph_flag sao (behind_sao weighted weights) low (none_alf of weighted weights (omega (arith, low)))

abbrev all_info : Bool → ℤ → ℤ → ℤ → List Item
all_info weighted lists sao weights = only_item pps.pps_rpl_info_in_ph_flag lists ++ behind_lists weighted sao weights

none_lists : (of : ℕ) (weighted : Bool) (lists sao weights : ℤ) → of < 462 → NoneOf of (all_info weighted lists sao weights)
none_lists of weighted lists sao weights low = no_item of pps.pps_rpl_info_in_ph_flag lists (behind_lists weighted sao weights) low (none_sao of weighted sao weights (omega (arith, low)))

-- the numbers, behind whatever
module _ (x : List Item) (weighted : Bool) (lists sao weights : ℤ) where
  lists_stated : number (x ++ all_info weighted lists sao weights) pps.pps_rpl_info_in_ph_flag ≡ natural lists
  lists_stated = number_of_last pps.pps_rpl_info_in_ph_flag lists x (behind_lists weighted sao weights) (omega arith) (none_sao pps.pps_rpl_info_in_ph_flag weighted sao weights (omega arith))

  sao_stated : number (x ++ all_info weighted lists sao weights) pps.pps_sao_info_in_ph_flag ≡ natural sao
  sao_stated =
      let of : ℕ = pps.pps_sao_info_in_ph_flag in
      let y : List Item = x ++ only_item pps.pps_rpl_info_in_ph_flag lists in
      moved of x (only_item pps.pps_rpl_info_in_ph_flag lists) (behind_lists weighted sao weights) ∙ number_of_last of sao y (behind_sao weighted weights) (omega arith) (none_alf of weighted weights (omega arith))

weights_stated : (x : List Item) (lists sao weights : ℤ) → number (x ++ all_info true lists sao weights) pps.pps_wp_info_in_ph_flag ≡ natural weights
weights_stated x lists sao weights =
    let of : ℕ = pps.pps_wp_info_in_ph_flag in
    let a : List Item = only_item pps.pps_rpl_info_in_ph_flag lists in
    let b : List Item = only_item pps.pps_sao_info_in_ph_flag sao in
    let e : List Item = only_item pps.pps_alf_info_in_ph_flag (pos 0) in
    let behind : List Item = only_item pps.pps_qp_delta_info_in_ph_flag (pos 0) in
    moved of x a (behind_lists true sao weights) ∙ moved of (x ++ a) b (behind_sao true weights) ∙ moved of ((x ++ a) ++ b) e (only_item of weights ++ behind)
    ∙ number_of_last of weights (((x ++ a) ++ b) ++ e) behind (omega arith) (no_item of pps.pps_qp_delta_info_in_ph_flag (pos 0) [] (omega arith) (no_more of))

-- all that is stated of a frame's tools, behind whatever
abbrev is_overridden : List Item → Bool
is_overridden source = is_set (number source pps.pps_deblocking_filter_override_enabled_flag)

abbrev stated_tools : ℤ → Bool → ℤ → Bool → ℤ → ℤ → ℤ → List Item
stated_tools qp over dbf weighted lists sao weights = only_item pps.pps_init_qp_minus26 qp ++ (where_so over (only_item pps.pps_dbf_info_in_ph_flag dbf) ++ all_info weighted lists sao weights)

module _ (x : List Item) (qp : ℤ) (over : Bool) (dbf : ℤ) (weighted : Bool) (lists sao weights : ℤ) where
  info_behind : (of : ℕ) → number (x ++ stated_tools qp over dbf weighted lists sao weights) of
      ≡ number (((x ++ only_item pps.pps_init_qp_minus26 qp) ++ where_so over (only_item pps.pps_dbf_info_in_ph_flag dbf)) ++ all_info weighted lists sao weights) of
  info_behind of = moved of x (only_item pps.pps_init_qp_minus26 qp) (where_so over (only_item pps.pps_dbf_info_in_ph_flag dbf) ++ all_info weighted lists sao weights)
      ∙ moved of (x ++ only_item pps.pps_init_qp_minus26 qp) (where_so over (only_item pps.pps_dbf_info_in_ph_flag dbf)) (all_info weighted lists sao weights)

dbf_stated : (x : List Item) (qp dbf : ℤ) (weighted : Bool) (lists sao weights : ℤ) → number (x ++ stated_tools qp true dbf weighted lists sao weights) pps.pps_dbf_info_in_ph_flag ≡ natural dbf
dbf_stated x qp dbf weighted lists sao weights =
    let of : ℕ = pps.pps_dbf_info_in_ph_flag in
    moved of x (only_item pps.pps_init_qp_minus26 qp) (only_item of dbf ++ all_info weighted lists sao weights)
    ∙ number_of_last of dbf (x ++ only_item pps.pps_init_qp_minus26 qp) (all_info weighted lists sao weights) (omega arith) (none_lists of weighted lists sao weights (omega arith))

-- ---- the set for a frame

-- the others' numbers are those of the items
module _ {items source : List Item} {c d : Partition} (p : Parts items c) (q : Parts source d) (shape : PpsShape) (front_ : List Item)
    (same : shown_items (names true) items ≡ shown_items (names true) source) (others : other_items (names true) items ≡ front_ ++ frame_tool_items source shape.init_qp) where
  told_by_others : (of : ℕ) → IsTrue (has (of ∷ []) of) → IsFalse (has (names true) of) → number items of ≡ number (front_ ++ frame_tool_items source shape.init_qp) of
  told_by_others of is out = number_by_others (names true) of items is out ∙ ap (λ xs. number xs of) others

  told_by_shown : (of : ℕ) → IsTrue (has (names true) of) → number items of ≡ number source of
  told_by_shown of is = number_of_shown (names true) of items is ∙ ap (λ xs. number xs of) same ∙ sym (number_of_shown (names true) of source is)

  lists_same : number items pps.pps_rpl_info_in_ph_flag ≡ number source pps.pps_rpl_info_in_ph_flag
  unfolding fresh
  lists_same =
      let of : ℕ = pps.pps_rpl_info_in_ph_flag in
      let flags = flags_of q in
      told_by_others of refl refl
      ∙ info_behind front_ shape.init_qp (is_overridden source) (pos (number source pps.pps_dbf_info_in_ph_flag)) (has_weights source) (pos (number source of)) (pos (number source pps.pps_sao_info_in_ph_flag)) (pos (number source pps.pps_wp_info_in_ph_flag)) of
      ∙ lists_stated ((front_ ++ only_item pps.pps_init_qp_minus26 shape.init_qp) ++ where_so (is_overridden source) (only_item pps.pps_dbf_info_in_ph_flag (pos (number source pps.pps_dbf_info_in_ph_flag)))) (has_weights source) (pos (number source of)) (pos (number source pps.pps_sao_info_in_ph_flag)) (pos (number source pps.pps_wp_info_in_ph_flag)) ∙ natural_is (number source of) (omega (arith, flags.lists))

  sao_same : number items pps.pps_sao_info_in_ph_flag ≡ number source pps.pps_sao_info_in_ph_flag
  unfolding fresh
  sao_same =
      let of : ℕ = pps.pps_sao_info_in_ph_flag in
      let flags = flags_of q in
      told_by_others of refl refl
      ∙ info_behind front_ shape.init_qp (is_overridden source) (pos (number source pps.pps_dbf_info_in_ph_flag)) (has_weights source) (pos (number source pps.pps_rpl_info_in_ph_flag)) (pos (number source of)) (pos (number source pps.pps_wp_info_in_ph_flag)) of
      ∙ sao_stated ((front_ ++ only_item pps.pps_init_qp_minus26 shape.init_qp) ++ where_so (is_overridden source) (only_item pps.pps_dbf_info_in_ph_flag (pos (number source pps.pps_dbf_info_in_ph_flag)))) (has_weights source) (pos (number source pps.pps_rpl_info_in_ph_flag)) (pos (number source of)) (pos (number source pps.pps_wp_info_in_ph_flag)) ∙ natural_is (number source of) (omega (arith, flags.sao))

  dbf_same : number items pps.pps_dbf_info_in_ph_flag ≡ number source pps.pps_dbf_info_in_ph_flag
  unfolding fresh
  dbf_same =
      let of : ℕ = pps.pps_dbf_info_in_ph_flag in
      let flags = flags_of q in
      elim (cases_eq (number source pps.pps_deblocking_filter_override_enabled_flag) 0) [
        | inl none ↦ (dbf_keeps p).1 (told_by_shown pps.pps_deblocking_filter_override_enabled_flag refl ∙ none) ∙ sym ((dbf_keeps q).1 none)
        | inr some ↦
            let is : is_overridden source ≡ true = ap not (ne_eqb (number source pps.pps_deblocking_filter_override_enabled_flag) 0 some) in
            told_by_others of refl refl
            ∙ ap (λ b. number (front_ ++ stated_tools shape.init_qp b (pos (number source of)) (has_weights source) (pos (number source pps.pps_rpl_info_in_ph_flag)) (pos (number source pps.pps_sao_info_in_ph_flag)) (pos (number source pps.pps_wp_info_in_ph_flag))) of) is
            ∙ dbf_stated front_ shape.init_qp (pos (number source of)) (has_weights source) (pos (number source pps.pps_rpl_info_in_ph_flag)) (pos (number source pps.pps_sao_info_in_ph_flag)) (pos (number source pps.pps_wp_info_in_ph_flag))
            ∙ natural_is (number source of) (omega (arith, flags.dbf))
      ]

  weighted_same : has_weights items ≡ has_weights source
  unfolding fresh
  weighted_same =
      ap (λ n. (is_set n || is_set (number items pps.pps_weighted_bipred_flag)) && is_set (number items pps.pps_rpl_info_in_ph_flag)) (told_by_shown pps.pps_weighted_pred_flag refl)
      ∙ ap (λ n. (is_set (number source pps.pps_weighted_pred_flag) || is_set n) && is_set (number items pps.pps_rpl_info_in_ph_flag)) (told_by_shown pps.pps_weighted_bipred_flag refl)
      ∙ ap (λ n. (is_set (number source pps.pps_weighted_pred_flag) || is_set (number source pps.pps_weighted_bipred_flag)) && is_set n) lists_same

  weights_same : number items pps.pps_wp_info_in_ph_flag ≡ number source pps.pps_wp_info_in_ph_flag
  unfolding fresh
  weights_same =
      let of : ℕ = pps.pps_wp_info_in_ph_flag in
      let flags = flags_of q in
      elim (cases_Bool (has_weights source)) [
        | inr none ↦ (info_keeps p).1 (weighted_same ∙ none) ∙ sym ((info_keeps q).1 none)
        | inl some ↦
            told_by_others of refl refl
            ∙ ap (λ b. number (front_ ++ stated_tools shape.init_qp (is_overridden source) (pos (number source pps.pps_dbf_info_in_ph_flag)) b (pos (number source pps.pps_rpl_info_in_ph_flag)) (pos (number source pps.pps_sao_info_in_ph_flag)) (pos (number source of))) of) some
            ∙ info_behind front_ shape.init_qp (is_overridden source) (pos (number source pps.pps_dbf_info_in_ph_flag)) true (pos (number source pps.pps_rpl_info_in_ph_flag)) (pos (number source pps.pps_sao_info_in_ph_flag)) (pos (number source of)) of
            ∙ weights_stated ((front_ ++ only_item pps.pps_init_qp_minus26 shape.init_qp) ++ where_so (is_overridden source) (only_item pps.pps_dbf_info_in_ph_flag (pos (number source pps.pps_dbf_info_in_ph_flag)))) (pos (number source pps.pps_rpl_info_in_ph_flag)) (pos (number source pps.pps_sao_info_in_ph_flag)) (pos (number source of)) ∙ natural_is (number source of) (omega (arith, flags.weights))
      ]

  keeps_all : kept_pps_items items ≡ kept_pps_items source
  keeps_all = same_kept p q same dbf_same lists_same sao_same weights_same

pub frame_keeps : FrameKeeps
frame_keeps source items shape set re merged =
    let r = re.rewritten in
    let begins : List Item = front_items (whole_flag source shape) shape in
    let division : List Item = re.stated.division in
    let shown : shown_items (names true) items ≡ shown_items (names true) source = subst (λ b. shown_items (names b) items ≡ shown_items (names b) source) merged r.shown_ones in
    let others : other_items (names true) items ≡ re.others = subst (λ b. other_items (names b) items ≡ re.others) merged r.other_ones in
    let all : re.others ≡ (begins ++ division) ++ frame_tool_items source shape.init_qp = re.stated.all
    ∙ ap (λ b. begins ++ (division ++ where_so b (frame_tool_items source shape.init_qp))) merged ∙ sym (append_assoc begins division (frame_tool_items source shape.init_qp)) in
    keeps_all (cut_parts items r.end (record { values = r.values; follows = r.follows; given = sym r.all })) (cut_parts source set.end set.set) shape (begins ++ division) shown (others ∙ all)
