-- Levels have few bits, and the numbers of the window and of the DPB are numbers of their code.
use Rattle.std.proofs.Common.{◌≡◌, ◌<◌, ℕ, true, List, refl, arith, sym, subst}
use Rattle.vx_bits.specs.Codes.{IsCodeNumber}
use Rattle.vx_bits.specs.declared.list.Item.{Item}
use Rattle.vx_fields.specs.declared.ptl.TheConstants.{general_level_idc}
use Rattle.vx_table.specs.EachField.{sections_pass}
use Rattle.vx_table.specs.Forms.{has_value}
use Rattle.vx_table.specs.Loaded.{number, code_below, range_below, row_below}
use Rattle.vx_sps.specs.Structure.{sps_sections}
use Rattle.vx_sps.specs.Set as sps
use Rattle.vx_sps.proofs.Bounded.{below}
use Rattle.vx_sps.proofs.Exists.{coded_number, golomb_row}

pub level_below : (items : List Item) → sps.AreSpsItems items → number items general_level_idc < 256
unfolding has_value code_below range_below row_below
level_below items set = below general_level_idc 256 items set (omega arith) refl

-- a number that an SPS codes by ue(v)
pub coded : (of : ℕ) (items : List Item) → sps.AreSpsItems items → sections_pass (golomb_row of) sps_sections ≡ true → IsCodeNumber (number items of)
coded of items set test = subst (λ x. IsCodeNumber (number x of)) (sym set.all) (coded_number of test set.follows)
