-- What is in force, step by step.
use Rattle.std.specs.Prelude.{ℕ, ◌==◌, cond, List, [], option_to_list}
use Rattle.vx_bits.specs.declared.list.Item.{Item}
use Rattle.vx_table.specs.Scope.{natural}
use Rattle.vx_fields.specs.declared.alf.TheConstants as alf
use Rattle.vx_aps.specs.declared.aps.TheConstants as aps
use Rattle.vx_pic.specs.Parts.{Parts}
use Rattle.vx_pic.specs.Inputs.{body_of}

-- The body for luma that an item names, if it names one and the picture has it.
abbrev pub luma_of : Parts → Item → List (List ℕ)
luma_of p item = cond (item.field == alf.alf_aps_id_luma) (option_to_list (body_of p aps.ALF (natural item.value))) []
