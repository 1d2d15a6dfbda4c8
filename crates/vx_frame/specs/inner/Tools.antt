-- The rules on tools, of the SPS or of the PPS of each picture. Our own.
use Rattle.std.specs.Prelude.{ℕ, List}
use Rattle.vx_bits.specs.declared.list.Item.{Item}
use Rattle.vx_pic.specs.Parts.{Parts}
use Rattle.vx_frame.specs.declared.sets.SetKind.{SetKind}
use Rattle.vx_frame.specs.declared.sets.SetKind.TheVariants.{Sps, Pps}
use Rattle.vx_frame.specs.Rules.{kept_pps, kept_sps, pps_field, pps_tools, sps_field, sps_tools}
use Rattle.vx_frame.specs.Verdict.{Rule}

-- Its kept fields.
abbrev pub kept_in : SetKind → Parts → List Item
kept_in Sps = kept_sps
kept_in Pps = kept_pps

-- The rule on it, and the field of the refusal.
abbrev pub rule_of : SetKind → List Parts → Rule
rule_of Sps = sps_tools
rule_of Pps = pps_tools

abbrev pub field_of : SetKind → List Parts → ℕ → ℕ
field_of Sps = sps_field
field_of Pps = pps_field
