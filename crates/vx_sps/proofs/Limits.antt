-- DPB parameters and timing that are stated go through their groups.
use Rattle.std.proofs.Common.{inl, inr, lit<, ◌≡◌, ℕ, pos, zero, suc, ◌<◌, ◌^◌, true, false, not, ◌==◌, ◌||◌, List, [], ◌∷◌, ◌++◌, length, slice_index, slice_set, refl, sym, arith}
use Rattle.std.specs.Prelude.{Bool, All}
use Rattle.std.proofs.lemmas.Bool.{cases_lt}
use Rattle.std.proofs.lemmas.List.{get_or_past}
use Rattle.std.proofs.lemmas.List.Elements.{All-get_or}
use Rattle.vx_bits.specs.Codes.{IsCodeNumber}
use Rattle.vx_bits.specs.declared.list.Item.{Item}
use Rattle.vx_fields.specs.declared.dpb.TheConstants as dpb_fields
use Rattle.vx_fields.specs.declared.timing.TheConstants as timing_fields
use Rattle.vx_fields.specs.declared.sps.TheConstants as sps
use Rattle.vx_table.specs.Scope.{fresh, value, natural, is_set}
use Rattle.vx_table.specs.Forms.{has_value, coding_at, limits_at, one_field, turns, present, part, form_of, after}
use Rattle.vx_table.specs.Parts.{always, sections_form}
use Rattle.vx_table.specs.Spelling.{HasCode, fault_of, item_of}
use Rattle.vx_table.specs.Claims.{knows_formula, knows_width, knows_range, knows_presence, hides_counter, hides_row, behind_field, within_block, depends, behind_rows, table_depends, behind_table, comes_always}
use Rattle.vx_table.specs.laws.Again.{shows_row}
use Rattle.vx_table.specs.Rewrites.{Takes}
use Rattle.vx_sps.specs.Structure.{dpb, timed, timing}
use Rattle.vx_sps.specs.Reshaped.{item}
use Rattle.vx_table.specs.Rewritten.{where_so}
use Rattle.vx_sps.specs.declared.tables.TheConstants.{SUBLAYER_DPB, SUBLAYER_CPB}
use Rattle.vx_ptl.specs.declared.tables.TheConstants.{DPB, NO_TIMING, TIMING, SUBLAYER_TIMING}
use Rattle.vx_table.proofs.Groups.{agree_given, takes_at}
use Rattle.vx_table.proofs.Rewrites.{values_take}
use Rattle.vx_sps.proofs.Stages.{TakesTo, Meets, stage_at, groups_take_to, no_more_to, where_to, there_to, table_to}
use Rattle.vx_sps.proofs.Testing.{owed, tested, all_tested, at_end, they_take, values_take_to}

-- ---- DPB parameters

-- each of some numbers, or 0 past them
pub coded_at : (numbers : List ℕ) (i : ℕ) → All IsCodeNumber numbers → IsCodeNumber (slice_index numbers i)
coded_at numbers i are = elim (cases_lt i (length numbers)) [
  | inl within ↦ All-get_or IsCodeNumber numbers i 0 within are
  | inr past ↦ let none : slice_index numbers i ≡ 0 = get_or_past numbers i 0 past in rw none (lit< tt)
]

not_not : (b : Bool) → not (not b) ≡ b
not_not true = refl
not_not false = refl

at_most : ℕ → List ℕ
at_most most = slice_set fresh sps.sps_max_sublayers_minus1 most

abbrev dpb_given : List ℕ
dpb_given = sps.sps_max_sublayers_minus1 ∷ sps.sps_sublayer_dpb_params_flag ∷ []

-- the flag, where there are several sublayers
flag_at : (most : ℕ) → TakesTo (form_of SUBLAYER_DPB (at_most most)) (where_so (is_set most) (item sps.sps_sublayer_dpb_params_flag 0 ∷ [])) (Meets dpb_given (at_most most))
unfolding fresh at_most form_of part one_field after has_value coding_at limits_at value fault_of item_of natural
flag_at most = no_more_to (where_to (is_set most) _ _ _ (sym (not_not (most == 0))) (values_take_to _ (pos 0 ∷ []) _ _ (tested refl (at_end (refl, (refl, (refl, tt))))) refl) (refl, (refl, (refl, tt))))

abbrev pub dpb_list : ℕ → ℕ → ℕ → List Item
dpb_list a b c = item dpb_fields.dpb_max_dec_pic_buffering_minus1 a ∷ item dpb_fields.dpb_max_num_reorder_pics b ∷ item dpb_fields.dpb_max_latency_increase_plus1 c ∷ []

dpb_at : (most a b c : ℕ) → IsCodeNumber a → IsCodeNumber b → IsCodeNumber c → Takes (sections_form (always DPB ∷ []) (at_most most)) (dpb_list a b c)
unfolding fresh at_most sections_form form_of part one_field after present turns has_value coding_at limits_at value HasCode fault_of item_of natural
dpb_at most a b c is_a is_b is_c = they_take _ (pos a ∷ pos b ∷ pos c ∷ []) _ (owed is_a refl (owed is_b refl (owed is_c refl (at_end tt)))) refl

pub dpb_take : (most : ℕ) (numbers : List ℕ) (t : List ℕ) → All IsCodeNumber numbers → length fresh ≡ length t
    → slice_index t sps.sps_max_sublayers_minus1 ≡ most → Takes (sections_form dpb t) (where_so (is_set most) (item sps.sps_sublayer_dpb_params_flag 0 ∷ []) ++ dpb_list (slice_index numbers 0) (slice_index numbers 1) (slice_index numbers 2))
unfolding fresh has_value knows_formula knows_width knows_range knows_presence hides_counter hides_row behind_field within_block depends behind_rows table_depends behind_table comes_always shows_row at_most
dpb_take most numbers t are size same =
    groups_take_to (always SUBLAYER_DPB ∷ []) (always DPB ∷ []) t
    (stage_at (sps.sps_max_sublayers_minus1 ∷ []) dpb_given (always SUBLAYER_DPB ∷ []) (at_most most) t (at_most most) refl refl refl (size, (sym same, tt)) (table_to SUBLAYER_DPB (at_most most) (flag_at most)))
    (λ e met. takes_at dpb_given (always DPB ∷ []) (at_most most) e refl refl (agree_given dpb_given met.0 met.1) (dpb_at most _ _ _ (coded_at numbers 0 are) (coded_at numbers 1 are) (coded_at numbers 2 are)))

-- ---- timing

-- a scope with the highest sublayer, at which there is timing
timed_at : ℕ → List ℕ
timed_at most = slice_set (slice_set fresh sps.sps_max_sublayers_minus1 most) sps.sps_timing_hrd_params_present_flag 1

abbrev timed_given : List ℕ
timed_given = sps.sps_max_sublayers_minus1 ∷ sps.sps_timing_hrd_params_present_flag ∷ []

-- the numbers of general timing
abbrev general_given : List ℕ
general_given = sps.sps_max_sublayers_minus1 ∷ sps.sps_timing_hrd_params_present_flag ∷ timing_fields.general_nal_hrd_params_present_flag
    ∷ timing_fields.general_vcl_hrd_params_present_flag ∷ timing_fields.general_du_hrd_params_present_flag ∷ timing_fields.hrd_cpb_cnt_minus1 ∷ []

abbrev sublayer_given : List ℕ
sublayer_given = sps.sps_sublayer_cpb_params_present_flag ∷ general_given

abbrev pub general_list : ℕ → ℕ → List Item
general_list units scale =
    item timing_fields.num_units_in_tick units ∷ item timing_fields.time_scale scale ∷ item timing_fields.general_nal_hrd_params_present_flag 0
    ∷ item timing_fields.general_vcl_hrd_params_present_flag 0 ∷ []

general_at : (most units scale : ℕ) → units < 2 ^ 32 → scale < 2 ^ 32
    → TakesTo (sections_form (always NO_TIMING ∷ timed TIMING ∷ []) (timed_at most)) (general_list units scale) (Meets general_given (timed_at most))
unfolding fresh timed_at sections_form form_of part one_field after present turns has_value coding_at limits_at value HasCode fault_of item_of natural
general_at most units scale few small =
    values_take_to _ (pos units ∷ pos scale ∷ pos 0 ∷ pos 0 ∷ []) _ _ (owed few refl (owed small refl (tested refl (tested refl (at_end (refl, (refl, (refl, (refl, (refl, (refl, (refl, tt)))))))))))) refl

cpb_at : (most : ℕ) → TakesTo (form_of SUBLAYER_CPB (timed_at most)) (where_so (is_set most) (item sps.sps_sublayer_cpb_params_present_flag 0 ∷ [])) (Meets sublayer_given (timed_at most))
unfolding fresh timed_at form_of part one_field after has_value coding_at limits_at value fault_of item_of natural
cpb_at most =
    no_more_to (there_to _ _ _ refl (no_more_to (where_to (is_set most) _ _ _ (sym (not_not (most == 0)))
    (values_take_to _ (pos 0 ∷ []) _ _ (tested refl (at_end (refl, (refl, (refl, (refl, (refl, (refl, (refl, (refl, tt)))))))))) refl) (refl, (refl, (refl, (refl, (refl, (refl, (refl, (refl, tt)))))))))))

abbrev pub rate_list : ℕ → ℕ → ℕ → List Item
rate_list general within duration =
    item timing_fields.fixed_pic_rate_general_flag general
    ∷ (where_so (not (is_set general)) (item timing_fields.fixed_pic_rate_within_cvs_flag within ∷ [])
    ++ where_so (is_set general || is_set within) (item timing_fields.elemental_duration_in_tc_minus1 duration ∷ []))

no_rate_at : (most duration : ℕ) → Takes (sections_form (timed SUBLAYER_TIMING ∷ []) (timed_at most)) (rate_list 0 0 duration)
unfolding fresh timed_at sections_form form_of part one_field after present turns has_value coding_at limits_at value HasCode fault_of item_of natural
no_rate_at most duration = they_take _ (pos 0 ∷ pos 0 ∷ []) _ (all_tested refl (λ s. tt)) refl

within_at : (most duration : ℕ) → IsCodeNumber duration → Takes (sections_form (timed SUBLAYER_TIMING ∷ []) (timed_at most)) (rate_list 0 1 duration)
unfolding fresh timed_at sections_form form_of part one_field after present turns has_value coding_at limits_at value HasCode fault_of item_of natural
within_at most duration is =
    values_take _ (pos 0 ∷ pos 1 ∷ pos duration ∷ []) _ (record { code = omega arith; range = refl }, (record { code = omega arith; range = refl }, (record { code = is; range = refl }, tt))) refl

general_rate_at : (most within duration : ℕ) → IsCodeNumber duration → Takes (sections_form (timed SUBLAYER_TIMING ∷ []) (timed_at most)) (rate_list 1 within duration)
unfolding fresh timed_at sections_form form_of part one_field after present turns has_value coding_at limits_at value HasCode fault_of item_of natural
general_rate_at most within duration is =
    values_take _ (pos 1 ∷ pos duration ∷ []) _ (record { code = omega arith; range = refl }, (record { code = is; range = refl }, tt)) refl

rate_at : (most general within duration : ℕ) → general < 2 → within < 2 → IsCodeNumber duration → Takes (sections_form (timed SUBLAYER_TIMING ∷ []) (timed_at most)) (rate_list general within duration)
rate_at most zero zero duration a b is = no_rate_at most duration
rate_at most zero (suc zero) duration a b is = within_at most duration is
rate_at most zero (suc (suc n)) duration a b is = absurd (omega arith)
rate_at most (suc zero) within duration a b is = general_rate_at most within duration is
rate_at most (suc (suc n)) within duration a b is = absurd (omega arith)

-- no timing
untimed_at : (most : ℕ) → Takes (sections_form timing (at_most most)) []
unfolding fresh at_most sections_form form_of part one_field after present turns has_value coding_at limits_at value HasCode fault_of item_of natural
untimed_at most = they_take _ [] _ (at_end tt) refl

pub untimed_take : (most : ℕ) (t : List ℕ) → length fresh ≡ length t → slice_index t sps.sps_max_sublayers_minus1 ≡ most → slice_index t sps.sps_timing_hrd_params_present_flag ≡ 0
    → Takes (sections_form timing t) []
unfolding fresh has_value knows_formula knows_width knows_range knows_presence hides_counter hides_row behind_field within_block depends behind_rows table_depends behind_table comes_always shows_row at_most
untimed_take most t size same none = takes_at timed_given timing (at_most most) t refl refl (agree_given timed_given size (sym same, (sym none, tt))) (untimed_at most)

pub timed_take : (most units scale general within duration : ℕ) (t : List ℕ) → units < 2 ^ 32 → scale < 2 ^ 32 → general < 2 → within < 2 → IsCodeNumber duration
    → length fresh ≡ length t → slice_index t sps.sps_max_sublayers_minus1 ≡ most → slice_index t sps.sps_timing_hrd_params_present_flag ≡ 1
    → Takes (sections_form timing t) (general_list units scale ++ (where_so (is_set most) (item sps.sps_sublayer_cpb_params_present_flag 0 ∷ []) ++ rate_list general within duration))
unfolding fresh has_value knows_formula knows_width knows_range knows_presence hides_counter hides_row behind_field within_block depends behind_rows table_depends behind_table comes_always shows_row timed_at
timed_take most units scale general within duration t few small a b is size same there =
    groups_take_to (always NO_TIMING ∷ timed TIMING ∷ []) (always SUBLAYER_CPB ∷ timed SUBLAYER_TIMING ∷ []) t
    (stage_at timed_given general_given (always NO_TIMING ∷ timed TIMING ∷ []) (timed_at most) t (timed_at most) refl refl refl (size, (sym same, (sym there, tt))) (general_at most units scale few small))
    (λ e met.
    groups_take_to (always SUBLAYER_CPB ∷ []) (timed SUBLAYER_TIMING ∷ []) e
    (stage_at general_given sublayer_given (always SUBLAYER_CPB ∷ []) (timed_at most) e (timed_at most) refl refl refl met (table_to SUBLAYER_CPB (timed_at most) (cpb_at most)))
    (λ f known. takes_at sublayer_given (timed SUBLAYER_TIMING ∷ []) (timed_at most) f refl refl (agree_given sublayer_given known.0 known.1) (rate_at most general within duration a b is)))
