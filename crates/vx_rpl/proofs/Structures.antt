-- The structures of an SPS, as a loop over its items finds them.
use Rattle.std.proofs.Common.{◌≡◌, Bool, List, [], ◌∷◌, length, refl, arith}
use Rattle.vx_bits.specs.declared.list.Item.{Item}
use Rattle.vx_fields.specs.declared.sps.TheConstants.{sps_num_ref_pic_lists}
use Rattle.vx_rpl.specs.Resolved.{structures_from}

pub structures_none : (w : Bool) (left : List Item) → length left ≡ 0 → structures_from w left ≡ []
structures_none w [] none = refl
structures_none w (item ∷ left) none = absurd (omega arith)

pub structures_stop : (w : Bool) (item : Item) (rest : List Item) → item.field ≡ sps_num_ref_pic_lists → structures_from w (item ∷ rest) ≡ []
structures_stop w item rest is = rw is refl
