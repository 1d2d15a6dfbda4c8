-- The forms of reference picture lists (H.266 7.3.9), of their structures (7.3.10) and of prediction weights (7.3.8). The contract
-- of `code_lists`, and definitions of headers, rely on it.
use Rattle.std.specs.Prelude.{ℕ, Bool, true, false, Option, None, Some, cond, List, [], ◌∷◌, ◌==◌}
use Rattle.std.specs.Prelude.{length, count_by, slice_get, slice_index, slice_set}
use Rattle.vx_table.specs.declared.rows.Term.TheVariants.{Number, Latest}
use Rattle.vx_table.specs.declared.rows.Formula.TheVariants.{Equal}
use Rattle.vx_table.specs.Scope.{one_if}
use Rattle.vx_table.specs.Forms.{Form, ◌>>=◌, form_of}
use Rattle.vx_table.specs.Parts.{Section, always, provided, sections_form}
use Rattle.vx_fields.specs.declared.names.rpl.TheConstants.{NUM_STRUCTURES, IS_LIST_0, LONG_ENTRIES}
use Rattle.vx_fields.specs.declared.rpl.TheConstants.{num_ref_entries, ltrp_in_header_flag, rpl_sps_flag, rpl_idx}
use Rattle.vx_rpl.specs.declared.entry.RefEntry.{RefEntry}
use Rattle.vx_rpl.specs.declared.entry.RefEntry.TheVariants.{Short, Long}
use Rattle.vx_rpl.specs.declared.entry.Structure.{Structure}
use Rattle.vx_rpl.specs.declared.entry.RplTable.{RplTable}
use Rattle.vx_rpl.specs.declared.tables.TheConstants.{BEFORE_LIST_0, CHOICE, REF_PIC_LIST_STRUCT, LONG_TERM}
use Rattle.vx_rpl.specs.declared.tables.TheConstants.{BEHIND_LIST_0, BEHIND_LIST_1, WEIGHTS_0, WEIGHTS, WEIGHTS_1}

-- ---- a structure that a header takes from the SPS (7.4.10)

-- st_ref_pic_flag is 0 (7.4.11).
abbrev pub is_long : RefEntry → Bool
is_long (Short abs sign) = false
is_long (Long lsb msb) = true

-- The scope after the structure, as if it had been read here (our own).
abbrev pub behind_structure : Option Structure → List ℕ → List ℕ
behind_structure None s = s
behind_structure (Some structure) s =
    slice_set
    (slice_set (slice_set s num_ref_entries (length structure.entries)) ltrp_in_header_flag (one_if structure.in_header))
    LONG_ENTRIES (count_by is_long structure.entries)

-- If rpl_sps_flag is 1, the structure at rpl_idx (RplsIdx, 7.4.10).
unfoldable pub picked : List Structure → List ℕ → List ℕ
picked structures s = cond (slice_index s rpl_sps_flag == 0) s (behind_structure (slice_get structures (slice_index s rpl_idx)) s)

-- ---- the lists of a header (7.3.9)

-- Before a list, of which the SPS has these structures (our own).
unfoldable pub begun : Bool → List Structure → List ℕ → List ℕ
begun is_list_0 structures s = slice_set (slice_set s IS_LIST_0 (one_if is_list_0)) NUM_STRUCTURES (length structures)

-- The list's own structure, if it takes none from the SPS, and the header's fields for long-term entries (7.3.9).
abbrev pub own_and_long_term : List Section
own_and_long_term = provided (Equal (Latest rpl_sps_flag) (Number 0)) REF_PIC_LIST_STRUCT ∷ always LONG_TERM ∷ []

unfoldable pub choice_form : Bool → List Structure → List ℕ → Form (List ℕ)
choice_form is_list_0 structures s = form_of CHOICE (begun is_list_0 structures s)

unfoldable pub chosen_form : List Structure → List ℕ → Form (List ℕ)
chosen_form structures s = sections_form own_and_long_term (picked structures s)

unfoldable pub list_form : Bool → List Structure → List ℕ → Form (List ℕ)
list_form is_list_0 structures s = choice_form is_list_0 structures s >>= chosen_form structures

unfoldable pub first_form : List Structure → List ℕ → Form (List ℕ)
first_form structures s = (form_of BEFORE_LIST_0 s >>= list_form true structures) >>= form_of BEHIND_LIST_0

unfoldable pub second_form : List Structure → List ℕ → Form (List ℕ)
second_form structures s = list_form false structures s >>= form_of BEHIND_LIST_1

-- ref_pic_lists(): list 0, and then list 1 (7.3.9).
unfoldable pub lists_form : RplTable → List ℕ → Form (List ℕ)
lists_form table s = first_form table.first s >>= second_form table.second

-- ---- weights (7.3.8)

-- pred_weight_table() (7.3.8).
abbrev pub weights : List Section
weights = always WEIGHTS_0 ∷ always WEIGHTS ∷ always WEIGHTS_1 ∷ always WEIGHTS ∷ []

abbrev pub weights_form : List ℕ → Form (List ℕ)
weights_form = sections_form weights
