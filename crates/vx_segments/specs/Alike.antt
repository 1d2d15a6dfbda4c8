-- Pictures that are read alike: what may differ between a picture read in a segment by itself and the same picture read after other
-- segments, so that the same is written of it. Our own.
use Rattle.std.specs.Prelude.{◌≡◌, List, ◌++◌}
use Rattle.std.specs.List.{AllByRecursion}
use Rattle.vx_fields.specs.declared.ph.TheConstants as ph
use Rattle.vx_aps.specs.declared.aps.TheConstants as aps
use Rattle.vx_pic.specs.Parts.{Parts, SlicePart, aps_at, read_of}
use Rattle.vx_pic.specs.Sets.{Slot, filter_items, named, named_filters}

-- Both have the same adaptation parameter sets of these types and ids.
abbrev pub HaveAlike : Parts → Parts → List Slot → Type 0
HaveAlike p q slots = AllByRecursion (λ slot. aps_at p.bodies slot.kind slot.id ≡ aps_at q.bodies slot.kind slot.id) slots

-- The adaptation parameter sets that the picture header names for LMCS and for scaling lists; and the filters of a slice.
abbrev pub header_names : Parts → List Slot
header_names p = named aps.LMCS ph.ph_lmcs_aps_id p.header.fields ++ named aps.SCALING ph.ph_scaling_list_aps_id p.header.fields

abbrev pub slice_names : Parts → SlicePart → List Slot
slice_names p s = named_filters (filter_items p.pps p.header.fields (read_of s.header))

-- The second is the first, except for whether it starts a coded layer video sequence, for its count, and for adaptation parameter sets
-- that it doesn't name. After other segments a CRA or GDR picture starts none, counts go on, and sets of these segments are still there.
pub record IsReadAlike (p q : Parts) : Type 0 where
  pub same : q ≡ record p { kind = record p.kind { clvss = q.kind.clvss; poc = q.kind.poc }; bodies = q.bodies }
  pub header : HaveAlike p q (header_names p)
  pub slices : AllByRecursion (λ s. HaveAlike p q (slice_names p s)) p.slices
