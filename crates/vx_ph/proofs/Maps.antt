-- LMCS and scaling lists that are stated go through their table.
use Rattle.std.proofs.Common.{◌≡◌, ℕ, pos, zero, suc, ◌<◌, Bool, true, false, List, [], ◌∷◌, ◌++◌, length, slice_index, slice_set, Option, Some, None, refl, sym, arith}
use Rattle.std.specs.Prelude.{IfSome}
use Rattle.vx_bits.specs.declared.list.Item.{Item}
use Rattle.vx_table.specs.Scope.{fresh, is_set, natural, one_if, value}
use Rattle.vx_table.specs.Forms.{after, coding_at, form_of, has_value, limits_at, one_field, part, present}
use Rattle.vx_table.specs.Spelling.{HasCode, fault_of, item_of}
use Rattle.vx_table.specs.Values.{to_end, through}
use Rattle.vx_table.specs.Depends.{Agree}
use Rattle.vx_table.specs.Claims.{behind_field, behind_rows, behind_table, depends, hides_counter, hides_row, knows_formula, knows_presence, knows_range, knows_width, table_depends, within_block}
use Rattle.vx_table.specs.Named.{named_by}
use Rattle.vx_table.specs.laws.Again.{shows_row}
use Rattle.vx_table.specs.Rewrites.{Takes}
use Rattle.vx_table.proofs.Again.{tables_show}
use Rattle.vx_table.proofs.Chains.{table_carries}
use Rattle.vx_table.proofs.Dependence.{inside_with_all}
use Rattle.vx_table.proofs.Groups.{agree_given}
use Rattle.vx_table.proofs.Rewrites.{takes_again}
use Rattle.vx_fields.specs.declared.sps.TheConstants.{sps_chroma_format_idc, sps_explicit_scaling_list_enabled_flag, sps_lmcs_enabled_flag}
use Rattle.vx_table.specs.Rewritten.{where_so}
use Rattle.vx_ph.specs.declared.shape.LmcsShape.{LmcsShape}
use Rattle.vx_ph.specs.declared.tables.TheConstants.{LMCS_AND_SCALING}
use Rattle.vx_ph.specs.Reshaped.{lmcs_said, scaling_said}

-- a scope that has what they read
small : ℕ → ℕ → ℕ → List ℕ
small c l k = slice_set (slice_set (slice_set fresh sps_chroma_format_idc c) sps_lmcs_enabled_flag l) sps_explicit_scaling_list_enabled_flag k

said : ℕ → ℕ → ℕ → Option LmcsShape → Option ℕ → List Item
said c l k lmcs scaling = where_so (is_set l) (lmcs_said c lmcs) ++ where_so (is_set k) (scaling_said scaling)

one_bit : (b : Bool) → one_if b < 2
one_bit true = omega arith
one_bit false = omega arith

small_takes : (c l k : ℕ) (lmcs : Option LmcsShape) (scaling : Option ℕ) → c < 2 → l < 2 → k < 2 → IfSome lmcs (λ x. x.id < 4) → IfSome scaling (λ id. id < 8)
    → Takes (form_of LMCS_AND_SCALING (small c l k)) (said c l k lmcs scaling)
unfolding small said fresh form_of part present value one_field after coding_at limits_at has_value HasCode fault_of item_of natural
small_takes zero zero zero lmcs scaling low_c low_l low_k a b = record { values = []; end = _; follows = to_end; all = refl }
small_takes zero zero (suc zero) lmcs None low_c low_l low_k a b = record { values = pos 0 ∷ []; end = _; follows = through (record { code = omega arith; range = refl }) to_end; all = refl }
small_takes zero zero (suc zero) lmcs (Some id) low_c low_l low_k a b = record { values = pos 1 ∷ pos id ∷ []; end = _; follows = through (record { code = omega arith; range = refl }) (through (record { code = omega (arith, b); range = refl }) to_end); all = refl }
small_takes zero (suc zero) zero None scaling low_c low_l low_k a b = record { values = pos 0 ∷ []; end = _; follows = through (record { code = omega arith; range = refl }) to_end; all = refl }
small_takes zero (suc zero) zero (Some x) scaling low_c low_l low_k a b = record { values = pos 1 ∷ pos x.id ∷ []; end = _; follows = through (record { code = omega arith; range = refl }) (through (record { code = omega (arith, a); range = refl }) to_end); all = refl }
small_takes zero (suc zero) (suc zero) None None low_c low_l low_k a b = record { values = pos 0 ∷ pos 0 ∷ []; end = _; follows = through (record { code = omega arith; range = refl }) (through (record { code = omega arith; range = refl }) to_end); all = refl }
small_takes zero (suc zero) (suc zero) None (Some id) low_c low_l low_k a b = record { values = pos 0 ∷ pos 1 ∷ pos id ∷ []; end = _; follows = through (record { code = omega arith; range = refl }) (through (record { code = omega arith; range = refl }) (through (record { code = omega (arith, b); range = refl }) to_end)); all = refl }
small_takes zero (suc zero) (suc zero) (Some x) None low_c low_l low_k a b = record { values = pos 1 ∷ pos x.id ∷ pos 0 ∷ []; end = _; follows = through (record { code = omega arith; range = refl }) (through (record { code = omega (arith, a); range = refl }) (through (record { code = omega arith; range = refl }) to_end)); all = refl }
small_takes zero (suc zero) (suc zero) (Some x) (Some id) low_c low_l low_k a b = record { values = pos 1 ∷ pos x.id ∷ pos 1 ∷ pos id ∷ []; end = _; follows = through (record { code = omega arith; range = refl }) (through (record { code = omega (arith, a); range = refl }) (through (record { code = omega arith; range = refl }) (through (record { code = omega (arith, b); range = refl }) to_end))); all = refl }
small_takes (suc zero) zero zero lmcs scaling low_c low_l low_k a b = record { values = []; end = _; follows = to_end; all = refl }
small_takes (suc zero) zero (suc zero) lmcs None low_c low_l low_k a b = record { values = pos 0 ∷ []; end = _; follows = through (record { code = omega arith; range = refl }) to_end; all = refl }
small_takes (suc zero) zero (suc zero) lmcs (Some id) low_c low_l low_k a b = record { values = pos 1 ∷ pos id ∷ []; end = _; follows = through (record { code = omega arith; range = refl }) (through (record { code = omega (arith, b); range = refl }) to_end); all = refl }
small_takes (suc zero) (suc zero) zero None scaling low_c low_l low_k a b = record { values = pos 0 ∷ []; end = _; follows = through (record { code = omega arith; range = refl }) to_end; all = refl }
small_takes (suc zero) (suc zero) zero (Some x) scaling low_c low_l low_k a b = record { values = pos 1 ∷ pos x.id ∷ pos (one_if x.scales_chroma) ∷ []; end = _; follows = through (record { code = omega arith; range = refl }) (through (record { code = omega (arith, a); range = refl }) (through (record { code = one_bit x.scales_chroma; range = refl }) to_end)); all = refl }
small_takes (suc zero) (suc zero) (suc zero) None None low_c low_l low_k a b = record { values = pos 0 ∷ pos 0 ∷ []; end = _; follows = through (record { code = omega arith; range = refl }) (through (record { code = omega arith; range = refl }) to_end); all = refl }
small_takes (suc zero) (suc zero) (suc zero) None (Some id) low_c low_l low_k a b = record { values = pos 0 ∷ pos 1 ∷ pos id ∷ []; end = _; follows = through (record { code = omega arith; range = refl }) (through (record { code = omega arith; range = refl }) (through (record { code = omega (arith, b); range = refl }) to_end)); all = refl }
small_takes (suc zero) (suc zero) (suc zero) (Some x) None low_c low_l low_k a b = record { values = pos 1 ∷ pos x.id ∷ pos (one_if x.scales_chroma) ∷ pos 0 ∷ []; end = _; follows = through (record { code = omega arith; range = refl }) (through (record { code = omega (arith, a); range = refl }) (through (record { code = one_bit x.scales_chroma; range = refl }) (through (record { code = omega arith; range = refl }) to_end))); all = refl }
small_takes (suc zero) (suc zero) (suc zero) (Some x) (Some id) low_c low_l low_k a b = record { values = pos 1 ∷ pos x.id ∷ pos (one_if x.scales_chroma) ∷ pos 1 ∷ pos id ∷ []; end = _; follows = through (record { code = omega arith; range = refl }) (through (record { code = omega (arith, a); range = refl }) (through (record { code = one_bit x.scales_chroma; range = refl }) (through (record { code = omega arith; range = refl }) (through (record { code = omega (arith, b); range = refl }) to_end)))); all = refl }
small_takes (suc (suc c)) l k lmcs scaling low_c low_l low_k a b = absurd (omega (arith, low_c))
small_takes zero (suc (suc l)) k lmcs scaling low_c low_l low_k a b = absurd (omega (arith, low_l))
small_takes (suc zero) (suc (suc l)) k lmcs scaling low_c low_l low_k a b = absurd (omega (arith, low_l))
small_takes zero zero (suc (suc k)) lmcs scaling low_c low_l low_k a b = absurd (omega (arith, low_k))
small_takes zero (suc zero) (suc (suc k)) lmcs scaling low_c low_l low_k a b = absurd (omega (arith, low_k))
small_takes (suc zero) zero (suc (suc k)) lmcs scaling low_c low_l low_k a b = absurd (omega (arith, low_k))
small_takes (suc zero) (suc zero) (suc (suc k)) lmcs scaling low_c low_l low_k a b = absurd (omega (arith, low_k))

-- ---- at any scope that has it

abbrev of_maps : List ℕ
of_maps = sps_chroma_format_idc ∷ sps_lmcs_enabled_flag ∷ sps_explicit_scaling_list_enabled_flag ∷ []

small_agrees : (t : List ℕ) → length t ≡ 1024
    → Agree of_maps (small (slice_index t sps_chroma_format_idc) (slice_index t sps_lmcs_enabled_flag) (slice_index t sps_explicit_scaling_list_enabled_flag)) t
unfolding small fresh
small_agrees t size = agree_given of_maps (sym size) (refl, (refl, (refl, tt)))

pub maps_take : (t : List ℕ) (lmcs : Option LmcsShape) (scaling : Option ℕ) → length t ≡ 1024 → slice_index t sps_chroma_format_idc < 2 → slice_index t sps_lmcs_enabled_flag < 2 → slice_index t sps_explicit_scaling_list_enabled_flag < 2
    → IfSome lmcs (λ x. x.id < 4) → IfSome scaling (λ id. id < 8)
    → Takes (form_of LMCS_AND_SCALING t) (where_so (is_set (slice_index t sps_lmcs_enabled_flag)) (lmcs_said (slice_index t sps_chroma_format_idc) lmcs)
    ++ where_so (is_set (slice_index t sps_explicit_scaling_list_enabled_flag)) (scaling_said scaling))
unfolding said fresh has_value knows_formula knows_width knows_range knows_presence hides_counter hides_row behind_field within_block depends behind_rows table_depends behind_table shows_row
maps_take t lmcs scaling size low_c low_l low_k a b =
    let c = slice_index t sps_chroma_format_idc in
    let l = slice_index t sps_lmcs_enabled_flag in
    let k = slice_index t sps_explicit_scaling_list_enabled_flag in
    let shown : List ℕ = of_maps ++ named_by LMCS_AND_SCALING in
    let carries = table_carries shown of_maps LMCS_AND_SCALING refl in
    let all = tables_show shown LMCS_AND_SCALING refl in
    takes_again shown _ (form_of LMCS_AND_SCALING (small c l k)) (form_of LMCS_AND_SCALING t) (said c l k lmcs scaling)
    (carries.alike (inside_with_all of_maps (named_by LMCS_AND_SCALING)) (small c l k) t (small_agrees t size)) (all.at (small c l k)) (all.at t) (small_takes c l k lmcs scaling low_c low_l low_k a b)
