-- The id of a subpicture has as many bits as are said, in the set that has it.
use Rattle.std.proofs.Common.{◌≡◌, ℕ, ◌+◌, ◌<◌, ◌^◌, ◌&&◌, ◌||◌, not, true, false, Bool, List, length, refl, ◌∙◌, arith}
use Rattle.std.proofs.lemmas.Bool.{and_parts}
use Rattle.vx_bits.specs.declared.list.Item.{Item}
use Rattle.vx_fields.specs.declared.sps.TheConstants as sps_fields
use Rattle.vx_fields.specs.declared.pps.TheConstants as pps_fields
use Rattle.vx_table.specs.Loaded.{number}
use Rattle.vx_table.specs.Scope.{is_set}
use Rattle.vx_sps.specs.Subpictures.{subpics_of}
use Rattle.vx_pic.specs.Parts.{Parts}
use Rattle.vx_pic.specs.PictureLayout.{are_in_pps, ids_misplaced, ids_of, ids_too_short, ids_unlike, needs_ids, same_flag}
use Rattle.vx_pic.proofs.Ids.{ids_count, ids_low_in_pps, not_false, or_false}
use Rattle.vx_pic.proofs.IdBits.{ids_low_in_sps}
use Rattle.vx_extract.specs.Shapes.{id_in}
use Rattle.vx_write.specs.InForce.{AreInForce}

same_flag_is : (a b : Bool) → same_flag a b ≡ true → a ≡ b
same_flag_is true true is = refl
same_flag_is false false is = refl
same_flag_is true false is = absurd (cc)
same_flag_is false true is = absurd (cc)

-- the PPS has ids exactly where it has to
flags_agree : (s p : List Item) → ids_misplaced s p ≡ false → is_set (number p pps_fields.pps_subpic_id_mapping_present_flag) ≡ needs_ids s
unfolding ids_misplaced
flags_agree s p agree =
    same_flag_is (is_set (number p pps_fields.pps_subpic_id_mapping_present_flag)) (needs_ids s)
    (not_false (same_flag (is_set (number p pps_fields.pps_subpic_id_mapping_present_flag)) (needs_ids s))
    (or_false (not (same_flag (is_set (number p pps_fields.pps_subpic_id_mapping_present_flag)) (needs_ids s)))
    ((is_set (number p pps_fields.pps_subpic_id_mapping_present_flag) && ids_unlike s p) || ids_too_short s) agree).0)

and_false : (a b : Bool) → b ≡ false → (a && b) ≡ false
and_false true b is = is
and_false false b is = refl

in_pps_where_needed : (s p : List Item) → ids_misplaced s p ≡ false → needs_ids s ≡ true → are_in_pps s p ≡ true
in_pps_where_needed s p agree needed =
    let signalled = (and_parts (is_set (number s sps_fields.sps_subpic_id_mapping_explicitly_signalled_flag)) (not (is_set (number s sps_fields.sps_subpic_id_mapping_present_flag))) needed).0 in
    rw (signalled, flags_agree s p agree) needed

pub not_in_pps_elsewhere : (s p : List Item) → ids_misplaced s p ≡ false → needs_ids s ≡ false → are_in_pps s p ≡ false
not_in_pps_elsewhere s p agree none =
    and_false (is_set (number s sps_fields.sps_subpic_id_mapping_explicitly_signalled_flag)) (is_set (number p pps_fields.pps_subpic_id_mapping_present_flag)) (flags_agree s p agree ∙ none)

pub id_low_in_pps : (q : Parts) (k : ℕ) → AreInForce q → k < subpics_of q.sps → needs_ids q.sps ≡ true → id_in q k < 2 ^ (number q.sps sps_fields.sps_subpic_id_len_minus1 + 1)
id_low_in_pps q k are within needed =
    let agree = are.made.ids.placed in
    let count : length (ids_of q.sps q.pps) ≡ subpics_of q.sps = ids_count q.sps q.pps are.pps agree in
    let low = ids_low_in_pps q.sps q.pps are.pps agree (in_pps_where_needed q.sps q.pps agree needed) in
    rw are.ids (low k 0 (omega (arith, within, count)))

pub id_low_in_sps : (q : Parts) (k : ℕ) → AreInForce q → k < subpics_of q.sps → is_set (number q.sps sps_fields.sps_subpic_info_present_flag) ≡ true → needs_ids q.sps ≡ false
    → id_in q k < 2 ^ (number q.sps sps_fields.sps_subpic_id_len_minus1 + 1)
id_low_in_sps q k are within described none =
    let agree = are.made.ids.placed in
    rw are.ids (ids_low_in_sps q.sps q.pps k are.sps agree (not_in_pps_elsewhere q.sps q.pps agree none) described within)
