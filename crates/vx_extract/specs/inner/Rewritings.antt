-- The sets that are sent for pictures with two sets. Our own.
use Rattle.std.specs.Prelude.{◌≡◌, ℕ, Option}
use Rattle.vx_sps.specs.Reshaped as sps_reshaped
use Rattle.vx_pps.specs.Reshaped as pps_reshaped
use Rattle.vx_pic.specs.PictureLayout.{ids_of, numbers_in}
use Rattle.vx_pic.specs.Parts.{Parts}
use Rattle.vx_extract.specs.declared.rewritten.Rewritten.{Rewritten}
use Rattle.vx_extract.specs.Shapes.{sps_shape, pps_shape}

-- They are the sets that are sent for this picture.
pub record IsRewritingOf (target : ℕ) (level : Option ℕ) (q : Parts) (made : Rewritten) : Type 0 where
  pub source_sps : made.source.sps ≡ q.sps
  pub source_pps : made.source.pps ≡ q.pps
  pub layout : q.layout ≡ numbers_in q.sps q.pps
  pub ids : q.ids ≡ ids_of q.sps q.pps
  pub sps : sps_reshaped.IsReshapedSps q.sps (sps_shape q target level) made.sps
  pub pps : pps_reshaped.IsReshapedPps q.pps (pps_shape q target) made.pps

-- They are the sets that are sent for some picture.
pub record IsRewriting (target : ℕ) (level : Option ℕ) (made : Rewritten) : Type 0 where
  pub picture : Parts
  pub is : IsRewritingOf target level picture made
