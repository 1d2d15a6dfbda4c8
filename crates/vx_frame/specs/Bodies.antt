-- The adaptation parameter sets that are in force in pictures, by their bodies. Our own.
use Rattle.std.specs.Prelude.{ℕ, Bool, false, ◌||◌, cond, List, [], ◌∷◌, ◌++◌, flat_map, Option, option_to_list}
use Rattle.vx_fields.specs.declared.ph.TheConstants as ph
use Rattle.vx_table.specs.Scope.{is_set}
use Rattle.vx_table.specs.Loaded.{number}
use Rattle.vx_aps.specs.declared.aps.TheConstants as aps
use Rattle.vx_pic.specs.Inputs.{Alf, alf_of, named_body}
use Rattle.vx_pic.specs.Parts.{Parts, SlicePart, read_of}
use Rattle.vx_pic.specs.Resident.{same_bytes}
use Rattle.vx_pic.specs.Sets.{filter_items}

-- ---- adaptive loop filters

-- The bodies of a slice, in the order in which it names them: luma, chroma, Cb and Cr.
abbrev pub bodies_in : Alf → List (List ℕ)
bodies_in a = a.luma ++ (option_to_list a.chroma ++ (option_to_list a.cc_cb ++ option_to_list a.cc_cr))

abbrev pub filters_of : Parts → SlicePart → List (List ℕ)
filters_of q s = bodies_in (alf_of q (filter_items q.pps q.header.fields (read_of s.header)))

-- The bodies of pictures, in the order of their slices.
abbrev pub filters_in : Parts → List (List ℕ)
filters_in q = flat_map (filters_of q) q.slices

-- Each body once, in the order in which they come first.
abbrev pub is_among : List ℕ → List (List ℕ) → Bool
is_among body [] = false
is_among body (b ∷ bodies) = same_bytes b body || is_among body bodies

abbrev pub with_body : List (List ℕ) → List ℕ → List (List ℕ)
with_body bodies body = cond (is_among body bodies) bodies (bodies ++ body ∷ [])

abbrev pub with_bodies : List (List ℕ) → List (List ℕ) → List (List ℕ)
with_bodies bodies [] = bodies
with_bodies bodies (body ∷ more) = with_bodies (with_body bodies body) more

abbrev pub once : List (List ℕ) → List (List ℕ)
once bodies = with_bodies [] bodies

-- The bodies of a round that are in force in slices, in the order of first use: by source, then by slice, then luma, chroma, Cb and Cr.
abbrev pub alf_bodies : List Parts → List (List ℕ)
alf_bodies round = once (flat_map filters_in round)

-- ---- luma mapping with chroma scaling, and scaling lists

-- The picture header has them: ph_lmcs_enabled_flag, ph_explicit_scaling_list_enabled_flag (7.4.3.8).
abbrev pub has_lmcs : Parts → Bool
has_lmcs q = is_set (number q.header.fields ph.ph_lmcs_enabled_flag)

abbrev pub has_scaling : Parts → Bool
has_scaling q = is_set (number q.header.fields ph.ph_explicit_scaling_list_enabled_flag)

-- The bodies that it names (ph_lmcs_aps_id and ph_scaling_list_aps_id, 7.4.3.8).
abbrev pub lmcs_body : Parts → Option (List ℕ)
lmcs_body q = named_body q aps.LMCS ph.ph_lmcs_aps_id q.header.fields

abbrev pub scaling_body : Parts → Option (List ℕ)
scaling_body q = named_body q aps.SCALING ph.ph_scaling_list_aps_id q.header.fields

-- The value of ph_chroma_residual_scale_flag (7.4.3.8).
abbrev pub is_chroma_scaled : Parts → Bool
is_chroma_scaled q = is_set (number q.header.fields ph.ph_chroma_residual_scale_flag)
