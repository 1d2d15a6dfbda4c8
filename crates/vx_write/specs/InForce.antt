-- What is known of the sets in force for a picture that is lent, from which rewritten sets are shown to exist. Our own.
use Rattle.std.specs.Prelude.{◌≡◌, true}
use Rattle.vx_layout.specs.Layouts.{HasLayout}
use Rattle.vx_sps.specs.Set as sps
use Rattle.vx_pps.specs.Pps as pps
use Rattle.vx_pic.specs.Sets.{same_size}
use Rattle.vx_pic.specs.PictureLayout.{MakeLayout, ids_of, numbers_in}
use Rattle.vx_pic.specs.Parts.{Parts}

pub record AreInForce (q : Parts) : Type 0 where
  pub sps : sps.AreSpsItems q.sps
  pub pps : pps.ArePpsItems q.pps
  pub size : same_size q.sps q.pps ≡ true
  pub made : MakeLayout q.sps q.pps
  pub ids : q.ids ≡ ids_of q.sps q.pps
  pub numbers : q.layout ≡ numbers_in q.sps q.pps
  pub layout : HasLayout q.layout
