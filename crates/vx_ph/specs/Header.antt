-- The form of a picture header (H.266 7.3.2.8). The contract of `code_header`, and those of all readers of headers, rely on it.
use Rattle.std.specs.Prelude.{ℕ, List, [], ◌∷◌}
use Rattle.vx_table.specs.declared.rows.Term.TheVariants.{Latest}
use Rattle.vx_table.specs.declared.rows.Formula.TheVariants.{Plain, Both}
use Rattle.vx_table.specs.declared.rows.Presence.TheVariants.{When}
use Rattle.vx_table.specs.Forms.{Form, ◌>>=◌, present}
use Rattle.vx_table.specs.Parts.{Section, always, provided, sections_form}
use Rattle.vx_fields.specs.declared.sps.TheConstants.{sps_alf_enabled_flag}
use Rattle.vx_fields.specs.declared.pps.TheConstants.{pps_alf_info_in_ph_flag, pps_rpl_info_in_ph_flag}
use Rattle.vx_fields.specs.declared.names.ph.TheConstants.{HAS_WEIGHTS}
use Rattle.vx_rpl.specs.declared.entry.RplTable.{RplTable}
use Rattle.vx_rpl.specs.Lists.{lists_form, weights_form}
use Rattle.vx_ph.specs.declared.tables.TheConstants.{PICTURE, PPS_ID, ORDER_COUNT, ALF, LMCS_AND_SCALING, OUTPUT}
use Rattle.vx_ph.specs.declared.tables.TheConstants.{INTRA, INTER, QP, FILTERS}

-- Before the lists: the filter if the SPS has it and the PPS says that it is in the picture header (7.3.2.8).
abbrev pub ph_before_lists : List Section
ph_before_lists = always PICTURE ∷ always PPS_ID ∷ always ORDER_COUNT
    ∷ provided (Both (Latest sps_alf_enabled_flag) (Latest pps_alf_info_in_ph_flag)) ALF ∷ always LMCS_AND_SCALING ∷ always OUTPUT ∷ []

-- The lists, if the PPS says that they are in the picture header (7.3.2.8, 7.3.9).
abbrev pub lists_if_present : RplTable → List ℕ → Form (List ℕ)
lists_if_present table = present (When (Plain (Latest pps_rpl_info_in_ph_flag))) (lists_form table)

-- Between lists and weights (7.3.2.8).
abbrev pub middle : List Section
middle = always INTRA ∷ always INTER ∷ []

-- Prediction weights, if the header has them (7.3.2.8, 7.3.8).
abbrev pub weights_if_present : List ℕ → Form (List ℕ)
weights_if_present = present (When (Plain (Latest HAS_WEIGHTS))) weights_form

-- After the weights (7.3.2.8).
abbrev pub back : List Section
back = always QP ∷ always FILTERS ∷ []

-- All before the weights (7.3.2.8).
unfoldable pub ph_before_weights : RplTable → List ℕ → Form (List ℕ)
ph_before_weights table s = (sections_form ph_before_lists s >>= lists_if_present table) >>= sections_form middle

-- picture_header_structure( ), with the SPS's structures of lists, at a scope that has the numbers of the sets in force
-- (7.3.2.8).
unfoldable pub header_form : RplTable → List ℕ → Form (List ℕ)
header_form table s = (ph_before_weights table s >>= weights_if_present) >>= sections_form back
