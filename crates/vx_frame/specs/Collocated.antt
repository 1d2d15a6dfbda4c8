-- The pictures from which slices predict motion (H.266 7.4.8, sh_collocated_ref_idx): the same one for all slices of a picture that name
-- one. A list states it by its order count: as a distance from the picture's own, or by its low bits and the number of cycles of these
-- between the two. So slices of pictures with one order count are compared by what their lists state.
use Rattle.std.specs.Prelude.{ℕ, ℤ, pos, neg_ℤ, ◌+◌, ◌+ℤ◌, ◌==◌, ◌&&◌, not, Bool, cond, List, [], ◌∷◌, flat_map, take, slice_get}
use Rattle.std.specs.Prelude.{Option, Some, None, unwrap_or}
use Rattle.std.specs.List.{sum_by}
use Rattle.vx_bits.specs.declared.list.Item.{Item}
use Rattle.vx_bits.specs.Fields.{first_value}
use Rattle.vx_fields.specs.declared.pps.TheConstants as pps
use Rattle.vx_fields.specs.declared.ph.TheConstants as ph
use Rattle.vx_fields.specs.declared.sh.TheConstants as sh
use Rattle.vx_table.specs.Scope.{natural, is_set}
use Rattle.vx_table.specs.Loaded.{number}
use Rattle.vx_rpl.specs.declared.entry.RefEntry.{RefEntry}
use Rattle.vx_rpl.specs.declared.entry.RefEntry.TheVariants.{Short, Long}
use Rattle.vx_sh.specs.declared.header.SliceHeader.{SliceHeader}
use Rattle.vx_pic.specs.Inputs.{lists_in_force}
use Rattle.vx_pic.specs.Parts.{Parts, SlicePart}
use Rattle.vx_frame.specs.declared.collocated.Collocated.{Collocated}
use Rattle.vx_frame.specs.declared.collocated.Collocated.TheVariants.{Nearby, Distant, Absent}

-- DeltaPocValSt (7.4.11) of a short-term entry
abbrev pub delta_of : RefEntry → ℤ
delta_of (Short abs sign) = cond sign (neg_ℤ (pos abs)) (pos abs)
delta_of (Long lsb msb) = pos 0

-- The distance of the last of some entries, each of which counts from the one before (8.3.2).
abbrev pub delta_from : ℤ → List RefEntry → ℤ
delta_from base [] = base
delta_from base (entry ∷ entries) = delta_from (base +ℤ delta_of entry) entries

abbrev pub delta_to : List RefEntry → ℤ
delta_to entries = delta_from (pos 0) entries

-- The value of delta_poc_msb_cycle_lt (7.4.10) of an entry, 0 if it is absent.
abbrev pub cycles_of : RefEntry → ℕ
cycles_of (Short abs sign) = 0
cycles_of (Long lsb msb) = unwrap_or msb 0

-- DeltaPocMsbCycleLt (7.4.10) of the last of some entries: each counts from the long-term one before it
abbrev pub cycles_to : List RefEntry → ℕ
cycles_to entries = sum_by cycles_of entries

-- What the last of some entries states (our own).
abbrev pub entry_tells : List RefEntry → Option RefEntry → Collocated
entry_tells upto (Some (Short abs sign)) = Nearby (delta_to upto)
entry_tells upto (Some (Long lsb None)) = Distant lsb None
entry_tells upto (Some (Long lsb (Some cycles))) = Distant lsb (Some (cycles_to upto))
entry_tells upto None = Absent

-- The picture of an entry of a list (our own).
abbrev pub told_at : List RefEntry → ℕ → Collocated
told_at entries i = entry_tells (take (i + 1) entries) (slice_get entries i)

-- ---- of a slice (7.4.8)

-- The number of a field of its header, and `absent` if there is none (our own).
abbrev pub number_or : ℕ → List Item → ℕ → ℕ
number_or absent items of = natural (unwrap_or (first_value items of) (pos absent))

-- Slices may name one if ph_temporal_mvp_enabled_flag is 1 and lists are in slice headers. Slices of type 2, which are I slices, don't,
-- and neither do those without a type (7.3.7).
abbrev pub may_name : Parts → Bool
may_name q = not (is_set (number q.pps pps.pps_rpl_info_in_ph_flag)) && is_set (number q.header.fields ph.ph_temporal_mvp_enabled_flag)

abbrev pub names_one : SliceHeader → Bool
names_one h = not (number_or 2 h.fields sh.sh_slice_type == 2)

-- It stands in list 0 unless sh_collocated_from_l0_flag is 0, at sh_collocated_ref_idx (7.4.8).
abbrev pub collocated_list : Parts → SliceHeader → List RefEntry
collocated_list q h =
    cond (is_set (number_or 1 h.fields sh.sh_collocated_from_l0_flag)) (lists_in_force q h).first (lists_in_force q h).second

abbrev pub collocated_of : Parts → SliceHeader → Collocated
collocated_of q h = told_at (collocated_list q h) (number_or 0 h.fields sh.sh_collocated_ref_idx)

-- What a slice names, if it names one (7.4.8).
abbrev pub collocated_by : Parts → SlicePart → List Collocated
collocated_by q s = cond (may_name q && names_one s.header) (collocated_of q s.header ∷ []) []

-- The collocated pictures that slices of a picture name, in order (our own).
abbrev pub collocated : Parts → List Collocated
collocated q = flat_map (collocated_by q) q.slices
