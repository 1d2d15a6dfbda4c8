-- The size of a picture in CTUs, which its layout has, and in luma samples, which both sets say.
use Rattle.std.proofs.Common.{◌≡◌, ◌+◌, ◌^◌, ◌<◌, ◌≤◌, ◌==◌, not, true, false, List, refl, ap, sym, ◌∙◌, inl, inr, arith}
use Rattle.std.specs.Int.{div_ceil}
use Rattle.std.proofs.Math.Pow.{pow_mono}
use Rattle.std.proofs.lemmas.Bool.{and_parts, cases_Bool, eqb-true}
use Rattle.vx_bits.specs.declared.list.Item.{Item}
use Rattle.vx_fields.specs.declared.sps.TheConstants as sps_fields
use Rattle.vx_fields.specs.declared.pps.TheConstants as pps_fields
use Rattle.vx_table.specs.Forms.{has_value}
use Rattle.vx_table.specs.Loaded.{number, code_below, range_below, row_below}
use Rattle.vx_layout.specs.Bounds.{last}
use Rattle.vx_sps.specs.Set as sps
use Rattle.vx_pps.specs.Pps as pps
use Rattle.vx_pps.specs.laws.Sets.{SetsTellPartitions}
use Rattle.vx_pps.specs.laws.Sets as pps_sets
use Rattle.vx_pic.specs.Sets.{same_size}
use Rattle.vx_pic.specs.PictureLayout.{columns_in_picture, ctu_sizes_differ, rows_in_picture}
use Rattle.vx_pic.proofs.Ids.{and_set, not_false}
use Rattle.vx_pic.proofs.Sizes.{quotient_is, side_below}

-- the CTU size is 32 at least
pub large : (s : List Item) → 32 ≤ sps.ctb_size_of s
large s = let more : 5 ≤ number s sps_fields.sps_log2_ctu_size_minus5 + 5 = omega arith in let most : 2 ^ 5 ≤ sps.ctb_size_of s = pow_mono more in most

-- of a partitioned picture both sets have one
pub same_ctus : (s p : List Item) → ctu_sizes_differ s p ≡ false → pps.is_partitioned p ≡ true → pps_sets.pps_ctb_size p ≡ sps.ctb_size_of s
unfolding ctu_sizes_differ
same_ctus s p same is =
    let one = eqb-true (number p pps_fields.pps_log2_ctu_size_minus5) (number s sps_fields.sps_log2_ctu_size_minus5)
    (not_false (number p pps_fields.pps_log2_ctu_size_minus5 == number s sps_fields.sps_log2_ctu_size_minus5)
    (and_set (pps.is_partitioned p) (not (number p pps_fields.pps_log2_ctu_size_minus5 == number s sps_fields.sps_log2_ctu_size_minus5)) is same)) in
    ap (λ n. 2 ^ (n + 5)) one

-- both sets say one size in luma samples
pub both_sizes : (s p : List Item) → same_size s p ≡ true → (number p pps_fields.pps_pic_width_in_luma_samples ≡ sps.width_of s) × (number p pps_fields.pps_pic_height_in_luma_samples ≡ sps.height_of s)
unfolding same_size
both_sizes s p same =
    let parts = and_parts (number p pps_fields.pps_pic_width_in_luma_samples == sps.width_of s) (number p pps_fields.pps_pic_height_in_luma_samples == sps.height_of s) same in
    (eqb-true _ (sps.width_of s) parts.0, eqb-true _ (sps.height_of s) parts.1)

-- which is at most 16,384
pub small_sides : (s : List Item) → sps.AreSpsItems s → (sps.width_of s < 16385) × (sps.height_of s < 16385)
unfolding has_value code_below range_below row_below
small_sides s set = (side_below sps_fields.sps_pic_width_max_in_luma_samples s set refl, side_below sps_fields.sps_pic_height_max_in_luma_samples s set refl)

-- the bounds end at the picture's size in CTUs
pub across : SetsTellPartitions → (s p : List Item) → pps.ArePpsItems p → ctu_sizes_differ s p ≡ false → number p pps_fields.pps_pic_width_in_luma_samples ≡ sps.width_of s
    → last (columns_in_picture s p) ≡ div_ceil (number p pps_fields.pps_pic_width_in_luma_samples) (sps.ctb_size_of s)
across tells s p set ctus same = elim (cases_Bool (pps.is_partitioned p)) [
  | inl is ↦ rw is (((tells p set).columns is).all ∙ ap (λ n. div_ceil (number p pps_fields.pps_pic_width_in_luma_samples) n) (same_ctus s p ctus is))
  | inr none ↦ rw none (quotient_is (sps.width_of s) (sps.ctb_size_of s) (large s) ∙ ap (λ n. div_ceil n (sps.ctb_size_of s)) (sym same))
]

pub down : SetsTellPartitions → (s p : List Item) → pps.ArePpsItems p → ctu_sizes_differ s p ≡ false → number p pps_fields.pps_pic_height_in_luma_samples ≡ sps.height_of s
    → last (rows_in_picture s p) ≡ div_ceil (number p pps_fields.pps_pic_height_in_luma_samples) (sps.ctb_size_of s)
down tells s p set ctus same = elim (cases_Bool (pps.is_partitioned p)) [
  | inl is ↦ rw is (((tells p set).rows is).all ∙ ap (λ n. div_ceil (number p pps_fields.pps_pic_height_in_luma_samples) n) (same_ctus s p ctus is))
  | inr none ↦ rw none (quotient_is (sps.height_of s) (sps.ctb_size_of s) (large s) ∙ ap (λ n. div_ceil n (sps.ctb_size_of s)) (sym same))
]
