-- The size of a picture in luma samples and in CTUs, and its subpictures.
use Rattle.std.proofs.Common.{◌≡◌, ℕ, suc, zero, ◌+◌, ◌%◌, ◌^◌, ◌<◌, ◌≤◌, length, ap, subst, ◌∙◌, arith}
use Rattle.std.specs.Prelude.{slice_index_or}
use Rattle.std.specs.Int.{div_ceil}
use Rattle.std.proofs.lemmas.List.FromFn.{get_or-map-range_with_len, length-map-range_with_len}
use Rattle.vx_fields.specs.declared.pps.TheConstants as pps_fields
use Rattle.vx_table.specs.Loaded.{number}
use Rattle.vx_layout.specs.Faults.{height, width}
use Rattle.vx_layout.specs.Layouts.{no_rect, subpic_at}
use Rattle.vx_layout.specs.Rects.{IsPart}
use Rattle.vx_sps.specs.Set as sps
use Rattle.vx_sps.specs.Subpictures.{rect_of, subpics_of}
use Rattle.vx_pps.specs.laws.Sets.{SetsTellPartitions}
use Rattle.vx_pic.specs.Inputs.{luma_size}
use Rattle.vx_pic.specs.Parts.{Parts}
use Rattle.vx_pic.proofs.PictureSizes.{across, both_sizes, down}
use Rattle.vx_write.specs.InForce.{AreInForce}

-- ---- along one axis

-- a number of luma samples, which so many CTUs hold
pub record IsSide (n ctus ctb : ℕ) : Type 0 where
  pub some : 0 < n
  pub small : n ≤ 16384
  pub whole : n % 8 ≡ 0
  pub held : ctus ≡ div_ceil n ctb

side_32 : (from size total : ℕ) → 0 < size → total ≤ 16384 → total % 8 ≡ 0 → from + size ≤ div_ceil total 32 → IsSide (luma_size from size 32 total) size 32
side_32 from size total some small whole inside =
    record { some = omega (arith, some, inside); small = omega (arith, small); whole = omega (arith, whole, inside, some); held = omega (arith, some, inside) }

side_64 : (from size total : ℕ) → 0 < size → total ≤ 16384 → total % 8 ≡ 0 → from + size ≤ div_ceil total 64 → IsSide (luma_size from size 64 total) size 64
side_64 from size total some small whole inside =
    record { some = omega (arith, some, inside); small = omega (arith, small); whole = omega (arith, whole, inside, some); held = omega (arith, some, inside) }

side_128 : (from size total : ℕ) → 0 < size → total ≤ 16384 → total % 8 ≡ 0 → from + size ≤ div_ceil total 128 → IsSide (luma_size from size 128 total) size 128
side_128 from size total some small whole inside =
    record { some = omega (arith, some, inside); small = omega (arith, small); whole = omega (arith, whole, inside, some); held = omega (arith, some, inside) }

-- so many CTUs of a picture's, of which the last may be cut
pub side_of : (log2 from size total : ℕ) → log2 < 3 → 0 < size → total ≤ 16384 → total % 8 ≡ 0 → from + size ≤ div_ceil total (2 ^ (log2 + 5)) → IsSide (luma_size from size (2 ^ (log2 + 5)) total) size (2 ^ (log2 + 5))
side_of zero from size total few some small whole inside = side_32 from size total some small whole inside
side_of (suc zero) from size total few some small whole inside = side_64 from size total some small whole inside
side_of (suc (suc zero)) from size total few some small whole inside = side_128 from size total some small whole inside
side_of (suc (suc (suc log2))) from size total few some small whole inside = absurd (omega (arith, few))

-- ---- of a picture

-- the picture's size, which both sets say, in CTUs
pub record HasSize (q : Parts) : Type 0 where
  pub wide : width q.layout ≡ div_ceil (number q.pps pps_fields.pps_pic_width_in_luma_samples) (sps.ctb_size_of q.sps)
  pub high : height q.layout ≡ div_ceil (number q.pps pps_fields.pps_pic_height_in_luma_samples) (sps.ctb_size_of q.sps)
  pub width : number q.pps pps_fields.pps_pic_width_in_luma_samples ≡ sps.width_of q.sps
  pub height : number q.pps pps_fields.pps_pic_height_in_luma_samples ≡ sps.height_of q.sps

pub has_size : SetsTellPartitions → (q : Parts) → AreInForce q → HasSize q
has_size tells q are =
    let both = both_sizes q.sps q.pps are.size in
    record {
      wide = ap width are.numbers ∙ across tells q.sps q.pps are.pps are.made.ctus both.0;
      high = ap height are.numbers ∙ down tells q.sps q.pps are.pps are.made.ctus both.1;
      width = both.0;
      height = both.1;
    }

-- ---- of its subpictures

-- how many there are
pub subpics_count : (q : Parts) → AreInForce q → length q.layout.subpics ≡ subpics_of q.sps
subpics_count q are = ap (λ n. length n.subpics) are.numbers ∙ length-map-range_with_len (rect_of q.sps) 0 (subpics_of q.sps)

-- one of them
pub subpic_is : (q : Parts) (k : ℕ) → AreInForce q → k < subpics_of q.sps → subpic_at q.layout k ≡ rect_of q.sps k
subpic_is q k are within = ap (λ n. slice_index_or n.subpics k no_rect) are.numbers ∙ get_or-map-range_with_len (rect_of q.sps) 0 (subpics_of q.sps) k k no_rect within (omega arith)

-- is a part of the picture
pub part_of : (q : Parts) (k : ℕ) → AreInForce q → k < subpics_of q.sps → IsPart (width q.layout) (height q.layout) (rect_of q.sps k)
part_of q k are within =
    let count = subpics_count q are in
    subst (IsPart (width q.layout) (height q.layout)) (subpic_is q k are within) (are.layout.faultless.subpics.parts k no_rect (omega (arith, within, count)))
