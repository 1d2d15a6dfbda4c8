-- The units of the sets that a picture needs, set by set. Our own.
use Rattle.std.specs.Prelude.{ℕ, List, ◌∷◌, Option, option_map}
use Rattle.vx_bits.specs.declared.list.Item.{Item}
use Rattle.vx_sps.specs.Reshaped as sps_reshaped
use Rattle.vx_pps.specs.Reshaped as pps_reshaped
use Rattle.vx_pic.specs.Parts.{Parts}
use Rattle.vx_pic.specs.Written.{Set, an_sps, a_pps, Plan}
use Rattle.vx_pic.specs.Resident.{kept_for, history_of}
use Rattle.vx_extract.specs.Shapes.{sps_shape, pps_shape}
use Rattle.vx_write.specs.Units.{IsSeiUnit}
use Rattle.vx_write.specs.Slots.{Sent}
use Rattle.vx_write.specs.Sending.{AreSent}
use Rattle.vx_extract.specs.Written.{needed_sets}
use Rattle.vx_extract.specs.inner.Needed.{needed_to}

-- The two sets, and the adaptation parameter sets that are needed of the first places.
abbrev pub sets_to : Parts → ℕ → (sps pps : List Item) → ℕ → List Set
sets_to q target sps pps place = an_sps sps ∷ a_pps pps ∷ needed_to q target place

-- What is made of a picture after others: the units of the sets that are sent, and the SEI unit. These are the last sets then.
pub record IsMade (target : ℕ) (level : Option ℕ) (q : Parts) (done : List Plan) (sets : List (List ℕ)) (sei : Option (List ℕ)) (slots : List Sent) : Type 0 where
  pub sps : List Item
  pub pps : List Item
  pub sps_is : sps_reshaped.IsReshapedSps q.sps (sps_shape q target level) sps
  pub pps_is : pps_reshaped.IsReshapedPps q.pps (pps_shape q target) pps
  pub sent : AreSent q.kind.temporal_id (kept_for q.kind.nal_type (history_of done)) (needed_sets q target sps pps) slots sets
  pub sei_is : IsSeiUnit q.kind.temporal_id q.messages (option_map (λ unit. record { unit = unit; messages = q.messages }) sei)
