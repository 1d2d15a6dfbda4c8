-- The rules by which the pictures of a round can't become one picture, with their corners in luma samples. Others are compared with
-- source 0, unless stated otherwise. Which rules there are is our own.
use Rattle.std.specs.Prelude.{◌≡◌, ◌⊎◌, ℕ, ℤ, ◌+◌, ◌<◌, ◌==◌, Bool, cond, List, [], ◌∷◌, ◌++◌, length, map, flat_map, take, sum_by, unwrap_or, Option, Some, None}
use Rattle.std.specs.Option.{option_or}
use Rattle.vx_bits.specs.declared.list.Item.{Item}
use Rattle.vx_bits.specs.declared.refusal.Refusal.{Refusal}
use Rattle.vx_bits.specs.declared.refusal.Refusal.TheVariants.{Limit, Merge}
use Rattle.vx_bits.specs.declared.rules.TheConstants as rules
use Rattle.vx_bits.specs.Fields.{first_value}
use Rattle.vx_fields.specs.declared.ptl.TheConstants as ptl
use Rattle.vx_fields.specs.declared.pps.TheConstants as pps
use Rattle.vx_fields.specs.declared.ph.TheConstants as ph
use Rattle.vx_fields.specs.declared.sh.TheConstants as sh
use Rattle.vx_table.specs.Loaded.{number}
use Rattle.vx_table.specs.Scope.{is_set}
use Rattle.vx_layout.specs.declared.numbers.Numbers.{Numbers}
use Rattle.vx_layout.specs.declared.rect.Rect.{Rect}
use Rattle.vx_rpl.specs.declared.entry.RefLists.{RefLists}
use Rattle.vx_sps.specs.Subpictures.{subpics_of}
use Rattle.vx_fit.specs.declared.placed.Placed.{Placed}
use Rattle.vx_fit.specs.declared.placed.FitFault.TheVariants.{TooLarge, Geometry, Order}
use Rattle.vx_fit.specs.FitFaults.{IsFitFault}
use Rattle.vx_fit.specs.FrameLines.{IsLinesFault}
use Rattle.vx_pic.specs.Differences.{differing_field}
use Rattle.vx_pic.specs.Inputs as inputs
use Rattle.vx_pic.specs.Inputs.{has_several_slices, has_several_tiles, lists_in_force}
use Rattle.vx_pic.specs.Parts.{Parts}
use Rattle.vx_frame.specs.declared.corner.Corner.{Corner}
use Rattle.vx_frame.specs.Bodies.{filters_in, has_lmcs, has_scaling, is_chroma_scaled, lmcs_body, once, scaling_body}
use Rattle.vx_frame.specs.Collocated.{collocated}
use Rattle.vx_frame.specs.Regions.{corners_in, ctb_of, layout_of, layouts_in, placed_in}
use Rattle.vx_frame.specs.Rounds.{SomeUnlikeFirst, UnlikeFirst, UnlikeLowest, picture_at}
use Rattle.vx_frame.specs.Counts.{alf_slots}
use Rattle.vx_frame.specs.Verdict.{Rule, IsVerdict}

-- ---- the refusal of a broken rule

-- The source that breaks it.
abbrev pub of_source : ℕ → (ℕ → Type 0) → Rule
of_source code breaks = record { breaks = breaks; tells = λ k. Merge code k 0 }

-- The source that breaks it, and the field in which it differs.
abbrev pub of_field : ℕ → (ℕ → Type 0) → (ℕ → ℕ) → Rule
of_field code breaks field = record { breaks = breaks; tells = λ k. Merge code k (field k) }

-- A limit, which all sources pass together.
abbrev pub of_limit : ℕ → Type 0 → Rule
of_limit code breaks = record { breaks = λ k. breaks; tells = λ k. Limit code }

-- ---- sets

-- M1: a source has several subpictures.
abbrev pub several_subpictures : List Parts → Rule
several_subpictures round = of_source rules.SEVERAL_SUBPICTURES (λ k. 1 < subpics_of (picture_at round k).sps)

-- M2: the kept fields of its SPS differ, or its profile, its tier, or whether there are only frames and only one layer. The field is that
-- at which the kept fields differ, or otherwise that of the four.
abbrev pub kept_sps : Parts → List Item
kept_sps q = inputs.sps_fields q.sps

abbrev pub profile_fields : List ℕ
profile_fields = ptl.general_profile_idc ∷ ptl.general_tier_flag ∷ ptl.ptl_frame_only_constraint_flag ∷ ptl.ptl_multilayer_enabled_flag ∷ []

abbrev pub profile_of : Parts → List ℕ
profile_of q = map (number q.sps) profile_fields

-- The first of some fields whose numbers differ between two structures.
abbrev pub differing_number : List ℕ → List Item → List Item → Option ℕ
differing_number [] items others = None
differing_number (of ∷ more) items others = cond (number items of == number others of) (differing_number more items others) (Some of)

abbrev pub differing_profile : List Parts → ℕ → Option ℕ
differing_profile round k = differing_number profile_fields (picture_at round k).sps (picture_at round 0).sps

-- The field at which two pictures differ in something.
abbrev pub differing_in : (Parts → List Item) → List Parts → ℕ → Option ℕ
differing_in f round k = differing_field (f (picture_at round k)) (f (picture_at round 0))

abbrev pub sps_field : List Parts → ℕ → ℕ
sps_field round k = unwrap_or (option_or (differing_in kept_sps round k) (differing_profile round k)) 0

abbrev pub sps_tools : List Parts → Rule
sps_tools round = of_field rules.SPS_TOOLS (λ k. UnlikeFirst kept_sps round k ⊎ UnlikeFirst profile_of round k) (sps_field round)

-- M7: the kept fields of its PPS are others.
abbrev pub kept_pps : Parts → List Item
kept_pps q = inputs.pps_fields q.pps

abbrev pub pps_field : List Parts → ℕ → ℕ
pps_field round k = unwrap_or (differing_in kept_pps round k) 0

abbrev pub pps_tools : List Parts → Rule
pps_tools round = of_field rules.PPS_TOOLS (UnlikeFirst kept_pps round) (pps_field round)

-- ---- the frame

-- L6: it is too large.
abbrev pub too_large : List Placed → ℕ → Rule
too_large placed ctb = of_limit rules.TOO_LARGE (IsFitFault placed ctb TooLarge)

-- M3: a region is off the grid of CTUs, overlaps another, or leaves a gap. M4: a region comes too early
-- (6.3.1; the order of slices, 7.4.8).
abbrev pub geometry : List Placed → ℕ → Rule
geometry placed ctb = of_source rules.GEOMETRY (λ k. IsFitFault placed ctb (Geometry k))

abbrev pub region_order : List Placed → ℕ → Rule
region_order placed ctb = of_source rules.REGION_ORDER (λ k. IsFitFault placed ctb (Order k))

abbrev pub rules_of_fit : List Placed → ℕ → List Rule
rules_of_fit placed ctb = too_large placed ctb ∷ geometry placed ctb ∷ region_order placed ctb ∷ []

-- M5: tile lines of the frame don't pass through a region exactly as its own do; the regions are in CTUs (6.3.1).
abbrev pub tile_lines : List Rect → List Numbers → Rule
tile_lines regions layouts = of_source rules.TILE_LINES (IsLinesFault regions layouts)

-- L5: all together have too many slices.
abbrev pub most_slices : ℕ
most_slices = 1000

abbrev pub too_many_slices : List Parts → Rule
too_many_slices round = of_limit rules.TOO_MANY_SLICES (most_slices < sum_by (λ q. length q.slices) round)

-- ---- pictures

-- M6: its type, its TemporalId, or whether an end of sequence came before it (7.4.2.2).
abbrev pub shared_kind : Parts → ℕ × (ℕ × Bool)
shared_kind q = (q.kind.nal_type, (q.kind.temporal_id, q.kind.after_eos))

abbrev pub picture_kind : List Parts → Rule
picture_kind round = of_source rules.PICTURE_KIND (UnlikeFirst shared_kind round)

-- M8: the kept fields of its header are others; or it has LMCS, and chroma residuals are scaled in it and not in the lowest source that
-- has it, or the other way round (7.4.3.8).
abbrev pub kept_header : Parts → List Item
kept_header q = inputs.header_fields q.header.fields

abbrev pub header_field : List Parts → ℕ → ℕ
header_field round k = unwrap_or (differing_in kept_header round k) ph.ph_chroma_residual_scale_flag

abbrev pub picture_header : List Parts → Rule
picture_header round = of_field rules.PICTURE_HEADER
    (λ k. UnlikeFirst kept_header round k ⊎ UnlikeLowest has_lmcs is_chroma_scaled round k)
    (header_field round)

-- M9: it has LMCS or scaling lists, and other ones than the lowest source that has them (7.4.3.8).
abbrev pub shared_sets : List Parts → Rule
shared_sets round = of_source rules.SHARED_SETS
    (λ k. UnlikeLowest has_lmcs lmcs_body round k ⊎ UnlikeLowest has_scaling scaling_body round k)

-- M10: the reference picture lists of its first slice.
abbrev pub first_lists : Parts → List RefLists
first_lists q = map (λ s. lists_in_force q s.header) (take 1 q.slices)

abbrev pub reference_lists : List Parts → Rule
reference_lists round = of_source rules.REFERENCE_LISTS (UnlikeFirst first_lists round)

-- ---- slices

-- M11: sh_no_output_of_prior_pics_flag of one of its slices is another than that of the first slice of all (7.4.8).
abbrev pub outputs_of : Parts → List (Option ℤ)
outputs_of q = map (λ s. first_value s.header.fields sh.sh_no_output_of_prior_pics_flag) q.slices

abbrev pub output_of_prior : List Parts → Rule
output_of_prior round = of_source rules.OUTPUT_OF_PRIOR (SomeUnlikeFirst outputs_of round)

-- M12: with it and those before it there are more bodies of adaptive loop filters than ids (ids of 7.4.3.6).
abbrev pub too_many_filters : List Parts → Rule
too_many_filters round =
    of_source rules.TOO_MANY_ALF (λ k. alf_slots < length (once (flat_map filters_in (take (k + 1) round))))

-- M13: it has several tiles, or several slices, and in-loop filters cross their borders otherwise than in the lowest source with several
-- (flags of the PPS, 7.4.3.5).
abbrev pub has_tiles : Parts → Bool
has_tiles q = has_several_tiles (layout_of q)

abbrev pub has_slices : Parts → Bool
has_slices q = has_several_slices (layout_of q)

abbrev pub crosses_tiles : Parts → Bool
crosses_tiles q = is_set (number q.pps pps.pps_loop_filter_across_tiles_enabled_flag)

abbrev pub crosses_slices : Parts → Bool
crosses_slices q = is_set (number q.pps pps.pps_loop_filter_across_slices_enabled_flag)

abbrev pub filter_flags : List Parts → Rule
filter_flags round = of_source rules.FILTER_FLAGS
    (λ k. UnlikeLowest has_tiles crosses_tiles round k ⊎ UnlikeLowest has_slices crosses_slices round k)

-- M16: one of its slices names another collocated picture than the first slice of all that names one (7.4.8).
abbrev pub collocated_pictures : List Parts → Rule
collocated_pictures round = of_source rules.COLLOCATED (SomeUnlikeFirst collocated round)

-- ---- all of them

abbrev pub rules_of_frame : List Corner → List Parts → List Rule
rules_of_frame corners round =
    rules_of_fit (placed_in corners round) (ctb_of round) ++ tile_lines (corners_in corners round) (layouts_in round) ∷ []

abbrev pub rules_of_sets : List Corner → List Parts → List Rule
rules_of_sets corners round =
    several_subpictures round ∷ sps_tools round ∷ (rules_of_frame corners round ++ too_many_slices round ∷ [])

abbrev pub rules_of_pictures : List Parts → List Rule
rules_of_pictures round =
    picture_kind round ∷ pps_tools round ∷ picture_header round ∷ shared_sets round ∷ reference_lists round ∷ []

abbrev pub rules_of_slices : List Parts → List Rule
rules_of_slices round =
    output_of_prior round ∷ too_many_filters round ∷ filter_flags round ∷ collocated_pictures round ∷ []

-- The rules in their order.
abbrev pub rules_of : List Corner → List Parts → List Rule
rules_of corners round = rules_of_sets corners round ++ (rules_of_pictures round ++ rules_of_slices round)

-- There is one verdict at most by them on a number of sources.
abbrev pub VerdictIsOne : Type 0
VerdictIsOne = (corners : List Corner) (round : List Parts) (n : ℕ) (a b : Option Refusal)
    → IsVerdict n (rules_of corners round) a → IsVerdict n (rules_of corners round) b → a ≡ b
