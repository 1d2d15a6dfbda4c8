-- That a set can be rewritten: the groups one behind another, some taken over and the others replaced.
use Rattle.std.proofs.Common.{◌≡◌, ℕ, ℤ, true, IsTrue, List, [], ◌++◌, length, slice_index, refl, subst}
use Rattle.std.proofs.lemmas.List.{append-nil}
use Rattle.vx_bits.specs.declared.list.Item.{Item}
use Rattle.vx_fields.specs.declared.sps.TheConstants.{sps_max_sublayers_minus1, sps_log2_ctu_size_minus5, sps_timing_hrd_params_present_flag}
use Rattle.vx_table.specs.Scope.{fresh}
use Rattle.vx_table.specs.Parts.{Section, sections_form}
use Rattle.vx_table.specs.Spelling.{items_along}
use Rattle.vx_table.specs.Values.{Follows}
use Rattle.vx_table.specs.Depends.{has, Agree}
use Rattle.vx_table.specs.Claims.{sections_hide}
use Rattle.vx_table.specs.Loaded.{number, sections_name_none}
use Rattle.vx_table.specs.Rewrites.{Takes}
use Rattle.vx_table.specs.Rewritten.{IsRewritten}
use Rattle.vx_table.specs.Shown.{shown_items}
use Rattle.vx_table.proofs.Agreeing.{agree_itself, inside_itself}
use Rattle.vx_table.proofs.Rewrites.{what_goes_is_rewritten}
use Rattle.vx_sps.specs.declared.shape.SpsShape.{SpsShape}
use Rattle.vx_sps.specs.Depends.{taken_sps_fields}
use Rattle.vx_sps.specs.Structure.{ids, start, profile, resampling, picture, counts, dpb, tools, timing, end, sps_sections, sps_form}
use Rattle.vx_sps.specs.Reshaped.{sps_id_items, profile_items, picture_items, dpb_items, timing_items, IsReshapedSps}
use Rattle.vx_table.proofs.Groups.{copied_group, inside_nothing, Onward, copied_first, replaced_first}
use Rattle.vx_sps.proofs.Stages.{standing}
use Rattle.vx_sps.proofs.Rows as tests

-- What is stated goes through the replaced groups, at each scope that has the numbers which they read.
pub record Replaces (source : List Item) (shape : SpsShape) : Type 0 where
  pub ids : (t : List ℕ) → length fresh ≡ length t → Takes (sections_form ids t) (sps_id_items shape.id)
  pub profile : (t : List ℕ) → length fresh ≡ length t → slice_index t sps_max_sublayers_minus1 ≡ number source sps_max_sublayers_minus1
      → Takes (sections_form profile t) (profile_items source shape.level)
  pub picture : (t : List ℕ) → Agree tests.unset fresh t → slice_index t sps_log2_ctu_size_minus5 ≡ number source sps_log2_ctu_size_minus5
      → Takes (sections_form picture t) (picture_items source shape)
  pub dpb : (t : List ℕ) → length fresh ≡ length t → slice_index t sps_max_sublayers_minus1 ≡ number source sps_max_sublayers_minus1
      → Takes (sections_form dpb t) (dpb_items source shape.dpb)
  pub timing : (t : List ℕ) → length fresh ≡ length t → slice_index t sps_max_sublayers_minus1 ≡ number source sps_max_sublayers_minus1
      → slice_index t sps_timing_hrd_params_present_flag ≡ number source sps_timing_hrd_params_present_flag
      → Takes (sections_form timing t) (timing_items source)

abbrev names : List ℕ
names = taken_sps_fields

-- a number that a replaced group reads
reads : (given : List ℕ) (rest : List Section) {values others : List ℤ} {s last t : List ℕ} → sections_name_none given sps_sections ≡ true → sections_hide given rest ≡ true
    → Follows sps_form values last → Follows (sections_form rest s) others last → Agree names s t → (n : ℕ) → IsTrue (has given n) → IsTrue (has names n)
    → slice_index t n ≡ number (items_along sps_form values) n
reads given rest loads hide follows behind agree n is_given is_taken = standing given names sps_sections rest loads hide follows behind agree n is_given is_taken

-- ---- the whole set

module _ {values : List ℤ} {last : List ℕ} (shape : SpsShape) (follows : Follows sps_form values last) (there : Replaces (items_along sps_form values) shape) where
  abbrev source : List Item
  source = items_along sps_form values

  from_end : Onward names [] end last []
  from_end s w ends = copied_group names [] end tests.end_taken.0 tests.end_taken.1 ends

  from_timing : Onward names [] tests.from_timing last (timing_items source ++ [])
  unfolding fresh
  from_timing = replaced_first names [] [] timing end (inside_itself []) tests.timing_replaced.0 tests.timing_replaced.1
      (λ s t w ends agree empty. there.timing t empty.size (reads tests.read_numbers tests.from_timing tests.numbers_load tests.timed_stands follows ends agree sps_max_sublayers_minus1 refl refl)
      (reads tests.read_numbers tests.from_timing tests.numbers_load tests.timed_stands follows ends agree sps_timing_hrd_params_present_flag refl refl)) from_end

  from_dpb : Onward names [] tests.from_dpb last (dpb_items source shape.dpb ++ (timing_items source ++ []))
  unfolding fresh
  from_dpb = replaced_first names [] [] dpb tests.from_tools (inside_itself []) tests.dpb_replaced.0 tests.dpb_replaced.1
      (λ s t w ends agree empty. there.dpb t empty.size (reads tests.early_numbers tests.from_dpb tests.early_load tests.dpb_stands follows ends agree sps_max_sublayers_minus1 refl refl))
      (copied_first names [] tools tests.from_timing tests.tools_taken.0 tests.tools_taken.1 tests.tools_taken.2 from_timing)

  from_picture : Onward names tests.unset tests.from_picture last (picture_items source shape ++ (dpb_items source shape.dpb ++ (timing_items source ++ [])))
  unfolding fresh
  from_picture = replaced_first names tests.unset [] picture tests.from_counts (inside_nothing tests.unset) tests.picture_replaced.0 tests.picture_replaced.1
      (λ s t w ends agree empty. there.picture t empty (reads tests.early_numbers tests.from_picture tests.early_load tests.picture_stands follows ends agree sps_log2_ctu_size_minus5 refl refl))
      (copied_first names [] counts tests.from_dpb tests.counts_taken.0 tests.counts_taken.1 tests.counts_taken.2 from_dpb)

  from_profile : Onward names tests.unset tests.from_profile last (profile_items source shape.level ++ (picture_items source shape ++ (dpb_items source shape.dpb ++ (timing_items source ++ []))))
  unfolding fresh
  from_profile = replaced_first names tests.unset tests.unset profile tests.from_resampling (inside_itself tests.unset) tests.profile_replaced.0 tests.profile_unset
      (λ s t w ends agree empty. there.profile t empty.size (reads tests.early_numbers tests.from_profile tests.early_load tests.profile_stands follows ends agree sps_max_sublayers_minus1 refl refl))
      (copied_first names tests.unset resampling tests.from_picture tests.resampling_taken.0 tests.resampling_taken.1 tests.resampling_taken.3 from_picture)

  from_ids : Onward names tests.unset sps_sections last (sps_id_items shape.id ++ (profile_items source shape.level ++ (picture_items source shape ++ (dpb_items source shape.dpb ++ (timing_items source ++ [])))))
  from_ids = replaced_first names tests.unset tests.unset ids tests.from_start (inside_itself tests.unset) tests.ids_replaced.0 tests.ids_unset
      (λ s t w ends agree empty. there.ids t empty.size) (copied_first names tests.unset start tests.from_profile tests.start_taken.0 tests.start_taken.1 tests.start_taken.3 from_profile)

  pub set_rewrites : (items : List Item) × IsReshapedSps source shape items
  set_rewrites =
      let goes = (from_ids fresh values follows).at fresh (agree_itself names fresh) (agree_itself tests.unset fresh) in
      let is = what_goes_is_rewritten names last _ _ sps_form goes in
      (is.0, subst (λ x. IsRewritten sps_form names (shown_items names source) (sps_id_items shape.id ++ (profile_items source shape.level ++ (picture_items source shape ++ (dpb_items source shape.dpb ++ x)))) is.0) (append-nil (timing_items source)) is.1)
