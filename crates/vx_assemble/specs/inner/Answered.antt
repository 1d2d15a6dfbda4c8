-- The answers of code that reads slices, related to the readers of H.266.
use Rattle.std.specs.Prelude.{◌≡◌, ℕ}
use Rattle.vx_sh.specs.declared.header.SliceHeader.{SliceHeader as SliceValue}
use Rattle.vx_sh.specs.declared.numbers.SliceNumbers.{SliceNumbers}
use Rattle.vx_pic.specs.Sets.{SliceHeader}
use Rattle.vx_pic.specs.Readings.{Begun}
use Rattle.vx_pic.specs.PictureLayout.{ids_of}
use Rattle.vx_pic.specs.UnderSets.{picture_header_of}

-- A slice header, and the place in its unit after it, as they are read.
abbrev pub slice_seen : SliceValue × ℕ → SliceHeader
slice_seen s = record { fields = s.0.fields; subpic = s.0.subpic; payload = s.1 }

-- The numbers under which a slice is read are those of this picture header and what is in force for it.
pub record AreOfBegun (n : SliceNumbers) (b : Begun) : Type 0 where
  pub sps : n.sps.now ≡ b.sps
  pub pps : n.pps.now ≡ b.pps
  pub layout : n.layout.now ≡ b.layout
  pub header : n.header.now ≡ picture_header_of b
  pub ids : n.ids.now ≡ ids_of b.sps b.pps
