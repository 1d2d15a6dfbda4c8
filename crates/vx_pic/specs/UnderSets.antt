-- What slices are read under, from the picture header and the sets in force. Our own. Definitions of slices that are read rely on
-- it.
use Rattle.std.specs.Prelude.{ℕ}
use Rattle.vx_rpl.specs.HeaderLists.{lists_of}
use Rattle.vx_ph.specs.declared.header.PictureHeader.{PictureHeader}
use Rattle.vx_ph.specs.InForce.{in_force, structures}
use Rattle.vx_sh.specs.Whole.{At}
use Rattle.vx_pic.specs.Readings.{Begun}
use Rattle.vx_pic.specs.PictureLayout.{ids_of}
use Rattle.vx_sh.specs.InForce.{at_sets}

-- The picture header, with the lists that its items determine.
abbrev pub picture_header_of : Begun → PictureHeader
picture_header_of b = record { fields = b.header; lists = lists_of (structures b.sps) (in_force b.sps b.pps) b.header }

-- The place of a slice of this type in the picture.
abbrev pub at_slice_of : ℕ → Begun → At
at_slice_of nal_type b = at_sets nal_type b.sps b.pps (picture_header_of b) (ids_of b.sps b.pps) b.layout
