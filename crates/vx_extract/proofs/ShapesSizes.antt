-- The size of a subpicture in luma samples.
use Rattle.std.proofs.Common.{ℕ, ◌<◌, arith}
use Rattle.vx_fields.specs.declared.sps.TheConstants as sps_fields
use Rattle.vx_fields.specs.declared.pps.TheConstants as pps_fields
use Rattle.vx_table.specs.Loaded.{number}
use Rattle.vx_sps.specs.Set as sps
use Rattle.vx_sps.specs.Subpictures.{rect_of, subpics_of}
use Rattle.vx_sps.proofs.Bounded.{ctu_below}
use Rattle.vx_pps.specs.laws.Sets.{SetsTellPartitions}
use Rattle.vx_pic.specs.Parts.{Parts}
use Rattle.vx_pic.proofs.PictureSizes.{small_sides}
use Rattle.vx_pic.proofs.Sizes.{has_sides}
use Rattle.vx_write.specs.InForce.{AreInForce}
use Rattle.vx_write.proofs.Sizes.{IsSide, has_size, part_of, side_of}
use Rattle.vx_extract.specs.Shapes.{height_in, width_in}

-- its width and height in luma samples
pub record HasSides (q : Parts) (k : ℕ) : Type 0 where
  pub wide : IsSide (width_in q k) (rect_of q.sps k).w (sps.ctb_size_of q.sps)
  pub high : IsSide (height_in q k) (rect_of q.sps k).h (sps.ctb_size_of q.sps)

pub has_sides_in : SetsTellPartitions → (q : Parts) (k : ℕ) → AreInForce q → k < subpics_of q.sps → HasSides q k
has_sides_in tells q k are within =
    let size = has_size tells q are in
    let part = part_of q k are within in
    let sides = has_sides q.sps are.sps in
    let small = small_sides q.sps are.sps in
    let log2 : ℕ = number q.sps sps_fields.sps_log2_ctu_size_minus5 in
    let few : log2 < 3 = ctu_below q.sps are.sps in
    record {
      wide = side_of log2 (rect_of q.sps k).x (rect_of q.sps k).w (number q.pps pps_fields.pps_pic_width_in_luma_samples) few part.wide (omega (arith, size.width, small.0)) (rw size.width sides.wide_whole) (rw size.wide at part.across);
      high = side_of log2 (rect_of q.sps k).y (rect_of q.sps k).h (number q.pps pps_fields.pps_pic_height_in_luma_samples) few part.high (omega (arith, size.height, small.1)) (rw size.height sides.high_whole) (rw size.high at part.down);
    }
