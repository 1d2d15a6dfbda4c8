-- The shape of the SPS is one that a set can have.
use Rattle.std.proofs.Common.{ℕ, ◌+◌, ◌<◌, ◌==◌, true, false, Bool, List, [], ◌∷◌, Option, refl, inl, inr, arith}
use Rattle.std.specs.Prelude.{All}
use Rattle.std.proofs.lemmas.Bool.{cases_Bool}
use Rattle.std.proofs.lemmas.List.Elements.{All-cons, All-nil}
use Rattle.vx_bits.specs.Codes.{IsCodeNumber}
use Rattle.vx_bits.specs.declared.list.Item.{Item}
use Rattle.vx_fields.specs.declared.dpb.TheConstants as dpb
use Rattle.vx_fields.specs.declared.sps.TheConstants as sps_fields
use Rattle.vx_layout.specs.declared.rect.Rect.{Rect}
use Rattle.vx_table.specs.Forms.{has_value}
use Rattle.vx_table.specs.Loaded.{number}
use Rattle.vx_table.specs.Scope.{is_set}
use Rattle.vx_sps.specs.Set as sps
use Rattle.vx_sps.specs.Subpictures.{rect_of, subpics_of}
use Rattle.vx_sps.specs.Reshaped.{IsPlan, IsShape, IsSize}
use Rattle.vx_sps.proofs.Exists.{golomb_row}
use Rattle.vx_pps.specs.laws.Sets.{SetsTellPartitions}
use Rattle.vx_pic.specs.Parts.{Parts}
use Rattle.vx_pic.specs.PictureLayout.{needs_ids}
use Rattle.vx_pic.specs.Sets.{sps_id}
use Rattle.vx_pic.proofs.Sizes.{id_length_below}
use Rattle.vx_extract.specs.Shapes.{dpb_of, offset, plan_of, sps_shape, window_of}
use Rattle.vx_write.specs.InForce.{AreInForce}
use Rattle.vx_sps.proofs.Bounded.{id_below}
use Rattle.vx_write.proofs.Ids.{coded}
use Rattle.vx_extract.proofs.ShapesIdBits.{id_low_in_sps}
use Rattle.vx_write.proofs.Sizes.{IsSide}
use Rattle.vx_extract.proofs.ShapesSizes.{has_sides_in}

size_from : (n ctus ctb : ℕ) → IsSide n ctus ctb → IsSize n
size_from n ctus ctb side = record { some = side.some; small = side.small; whole = side.whole }

offset_coded : (source : List Item) (touches : Bool) (of : ℕ) → IsCodeNumber (number source of) → IsCodeNumber (offset source touches of)
offset_coded source true of is = is
offset_coded source false of is = omega arith

three : (a b c : ℕ) → IsCodeNumber a → IsCodeNumber b → IsCodeNumber c → All IsCodeNumber (a ∷ b ∷ c ∷ [])
three a b c p q r = All-cons IsCodeNumber a (b ∷ c ∷ []) p (All-cons IsCodeNumber b (c ∷ []) q (All-cons IsCodeNumber c [] r (All-nil IsCodeNumber)))

window_coded : (source : List Item) (r : Rect) → sps.AreSpsItems source → All IsCodeNumber (window_of source r)
unfolding has_value golomb_row
window_coded source r set =
    let left : ℕ = offset source (r.x == 0) sps_fields.sps_conf_win_left_offset in
    let right : ℕ = offset source (r.x + r.w == sps.ctu_columns_of source) sps_fields.sps_conf_win_right_offset in
    let top : ℕ = offset source (r.y == 0) sps_fields.sps_conf_win_top_offset in
    let bottom : ℕ = offset source (r.y + r.h == sps.ctu_rows_of source) sps_fields.sps_conf_win_bottom_offset in
    let coded_left = offset_coded source (r.x == 0) sps_fields.sps_conf_win_left_offset (coded sps_fields.sps_conf_win_left_offset source set refl) in
    let coded_right = offset_coded source (r.x + r.w == sps.ctu_columns_of source) sps_fields.sps_conf_win_right_offset (coded sps_fields.sps_conf_win_right_offset source set refl) in
    let coded_top = offset_coded source (r.y == 0) sps_fields.sps_conf_win_top_offset (coded sps_fields.sps_conf_win_top_offset source set refl) in
    let coded_bottom = offset_coded source (r.y + r.h == sps.ctu_rows_of source) sps_fields.sps_conf_win_bottom_offset (coded sps_fields.sps_conf_win_bottom_offset source set refl) in
    All-cons IsCodeNumber left (right ∷ top ∷ bottom ∷ []) coded_left (three right top bottom coded_right coded_top coded_bottom)

dpb_coded : (source : List Item) → sps.AreSpsItems source → All IsCodeNumber (dpb_of source)
unfolding has_value golomb_row
dpb_coded source set =
    three (number source dpb.dpb_max_dec_pic_buffering_minus1) (number source dpb.dpb_max_num_reorder_pics) (number source dpb.dpb_max_latency_increase_plus1)
    (coded dpb.dpb_max_dec_pic_buffering_minus1 source set refl) (coded dpb.dpb_max_num_reorder_pics source set refl) (coded dpb.dpb_max_latency_increase_plus1 source set refl)

is_plan : (q : Parts) (k columns rows : ℕ) → AreInForce q → k < subpics_of q.sps → IsPlan columns rows (plan_of q k)
is_plan q k columns rows are within = elim (cases_Bool (is_set (number q.sps sps_fields.sps_subpic_info_present_flag))) [
  | inl described ↦
      let few : number q.sps sps_fields.sps_subpic_id_len_minus1 < 16 = id_length_below q.sps are.sps in
      elim (cases_Bool (needs_ids q.sps)) [
        | inl needed ↦ rw (described, needed) (omega (arith, few), tt)
        | inr none ↦ rw (described, none) (omega (arith, few), id_low_in_sps q k are within described none)
      ]
  | inr none ↦ rw none tt
]

pub sps_is_shape : SetsTellPartitions → (q : Parts) (k : ℕ) (level : Option ℕ) → AreInForce q → k < subpics_of q.sps → IsShape (sps.ctb_size_of q.sps) (sps_shape q k level)
unfolding sps_id
sps_is_shape tells q k level are within =
    let sides = has_sides_in tells q k are within in
    record {
      id = id_below q.sps are.sps;
      width = size_from _ _ _ sides.wide;
      height = size_from _ _ _ sides.high;
      window = window_coded q.sps (rect_of q.sps k) are.sps;
      dpb = dpb_coded q.sps are.sps;
      plan = is_plan q k _ _ are within;
    }
