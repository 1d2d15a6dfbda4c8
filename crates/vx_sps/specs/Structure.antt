-- The form of a sequence parameter set (H.266 clause 7.3.2.4). The contracts of `read_sps` and `code_sps` rely on it.
use Rattle.std.specs.Prelude.{ℕ, ◌++◌, List, [], ◌∷◌}
use Rattle.vx_table.specs.declared.rows.Term.TheVariants.{Latest}
use Rattle.vx_table.specs.declared.rows.Formula.TheVariants.{Plain}
use Rattle.vx_table.specs.declared.rows.Row.{Row}
use Rattle.vx_table.specs.Scope.{fresh}
use Rattle.vx_table.specs.Forms.{Form}
use Rattle.vx_table.specs.Parts.{Section, always, provided, in_turns, sections_form}
use Rattle.vx_fields.specs.declared.sps.TheConstants.{sps_subpic_info_present_flag, sps_timing_hrd_params_present_flag}
use Rattle.vx_fields.specs.declared.names.rpl.TheConstants.{STRUCTURE, NUM_STRUCTURES}
use Rattle.vx_fields.specs.declared.names.sps.TheConstants.{SUBPIC, NUM_PLACES}
use Rattle.vx_ptl.specs.declared.tables.TheConstants.{PTL, DPB, NO_TIMING, TIMING, SUBLAYER_TIMING}
use Rattle.vx_rpl.specs.declared.tables.TheConstants.{REF_PIC_LIST_STRUCT}
use Rattle.vx_sps.specs.declared.tables.TheConstants as tables

-- ---- the tables in groups: a rewritten set copies all fields of a group, or replaces them all (7.3.2.4)

-- The ids.
abbrev pub ids : List Section
ids = always tables.IDS ∷ []

-- The numbers before profile_tier_level( ).
abbrev pub start : List Section
start = always tables.START ∷ []

-- profile_tier_level( ) (7.3.3.1).
abbrev pub profile : List Section
profile = always PTL ∷ []

-- After it (7.3.2.4).
abbrev pub resampling : List Section
resampling = always tables.RESAMPLING ∷ []

-- What is present if sps_subpic_info_present_flag is 1 (7.3.2.4).
abbrev pub with_subpictures : List Row → Section
with_subpictures rows = provided (Plain (Latest sps_subpic_info_present_flag)) rows

-- The size of pictures and their subpictures (7.3.2.4).
abbrev pub picture : List Section
picture = always tables.SIZE ∷ always tables.CTUS ∷ with_subpictures tables.SUBPICTURES
    ∷ in_turns SUBPIC (Plain (Latest NUM_PLACES)) tables.PLACE ∷ with_subpictures tables.SUBPIC_IDS ∷ []

-- Bit depth, order counts, and extra bits of headers (7.3.2.4).
abbrev pub counts : List Section
counts = always tables.COUNTS ∷ []

-- sps_sublayer_dpb_params_flag, and dpb_parameters( ) (7.3.2.4, 7.3.4).
abbrev pub dpb : List Section
dpb = always tables.SUBLAYER_DPB ∷ always DPB ∷ []

-- ref_pic_list_struct( ), sps_num_ref_pic_lists times (7.3.2.4, 7.3.10).
abbrev pub rpl_structures : Section
rpl_structures = in_turns STRUCTURE (Plain (Latest NUM_STRUCTURES)) REF_PIC_LIST_STRUCT

-- From the partition of coding blocks to sps_virtual_boundaries_enabled_flag (7.3.2.4).
abbrev pub tools : List Section
tools = always tables.PARTITIONS ∷ always tables.TRANSFORMS ∷ always tables.CHROMA_QP ∷ always tables.FILTERS
    ∷ always tables.REFERENCES ∷ rpl_structures ∷ always tables.LIST_1 ∷ rpl_structures
    ∷ always tables.INTER ∷ always tables.INTRA ∷ always tables.SCALING ∷ always tables.TIMED ∷ []

-- What is present if sps_timing_hrd_params_present_flag is 1 (7.3.2.4).
abbrev pub timed : List Row → Section
timed rows = provided (Plain (Latest sps_timing_hrd_params_present_flag)) rows

-- general_timing_hrd_parameters( ) and ols_timing_hrd_parameters( ) (7.3.2.4, 7.3.5.1, 7.3.5.2).
abbrev pub timing : List Section
timing = always NO_TIMING ∷ timed TIMING ∷ always tables.SUBLAYER_CPB ∷ timed SUBLAYER_TIMING ∷ []

-- From sps_field_seq_flag on (7.3.2.4).
abbrev pub end : List Section
end = always tables.END ∷ []

-- ---- the whole set (7.3.2.4)

abbrev pub sps_sections : List Section
sps_sections = ids ++ (start ++ (profile ++ (resampling ++ (picture ++ (counts ++ (dpb ++ (tools ++ (timing ++ end))))))))

-- It depends on no number of the scope at which it begins.
abbrev pub sps_form : Form (List ℕ)
sps_form = sections_form sps_sections fresh
