-- What is written for a subpicture of each picture of a stream. Our own.
use Rattle.std.specs.Prelude.{◌≡◌, ℕ, ◌==◌, ◌&&◌, not, Bool, List, [], ◌∷◌, ◌++◌, filter, map, flat_map, Option, Some, None}
use Rattle.std.specs.List.{AllByRecursion, list_any, range_with_len}
use Rattle.vx_bits.specs.declared.list.Item.{Item}
use Rattle.vx_annexb.specs.Laws.{written}
use Rattle.vx_aps.specs.declared.aps.Aps.{Aps}
use Rattle.vx_aps.specs.declared.aps.TheConstants.{ALF, LMCS, SCALING}
use Rattle.vx_sps.specs.Reshaped as sps_reshaped
use Rattle.vx_pps.specs.Reshaped as pps_reshaped
use Rattle.vx_layout.specs.Regions.{region_of}
use Rattle.vx_pic.specs.Sets.{Slot}
use Rattle.vx_pic.specs.Readings.{Slice}
use Rattle.vx_pic.specs.Parts.{Parts, SlicePart, aps_at, id_count, aps_named_by}
use Rattle.vx_pic.specs.Written.{Set, an_sps, a_pps, an_aps, SetUnit, Plan, planned_slices}
use Rattle.vx_pic.specs.Resident.{is_resident, sent_before, units_written}
use Rattle.vx_write.specs.Units.{IsSetUnit, IsSeiUnit}
use Rattle.vx_extract.specs.Shapes.{sps_shape, pps_shape}

-- ---- slices

-- The slices of the subpicture, in order (C.7).
abbrev pub parts_in : Parts → ℕ → List SlicePart
parts_in q target = filter (λ s. s.header.subpic == target) q.slices

-- A slice as it stands, of the one subpicture.
abbrev pub slice_alone : SlicePart → Slice
slice_alone s = record { unit = s.unit; header = record { fields = s.header.fields; subpic = 0; payload = s.payload } }

abbrev pub extracted_slices : Parts → ℕ → List Slice
extracted_slices q target = map slice_alone (parts_in q target)

-- ---- sets

-- The types of adaptation parameter sets with eight ids each (LMCS has but 0 to 3, 7.4.3.6), by rising type and then by rising id.
abbrev pub slots_of : ℕ → List Slot
slots_of kind = map (λ id. record { kind = kind; id = id }) (range_with_len 0 id_count)

abbrev pub all_slots : List Slot
all_slots = slots_of ALF ++ (slots_of LMCS ++ slots_of SCALING)

abbrev pub same_type_and_id : Slot → Slot → Bool
same_type_and_id a b = (a.kind == b.kind) && (a.id == b.id)

-- What the slices of the subpicture name: filters, and what the picture header names.
abbrev pub named_in : Parts → ℕ → List Slot
named_in q target = flat_map (λ s. aps_named_by q.pps q.header.fields s.header) (parts_in q target)

abbrev pub is_named : Parts → ℕ → Slot → Bool
is_named q target slot = list_any (same_type_and_id slot) (named_in q target)

-- The picture's set of a type and an id, if it has one.
abbrev pub set_of_slot : Slot → Option Aps → List Set
set_of_slot slot None = []
set_of_slot slot (Some a) = an_aps (record { kind = slot.kind; id = slot.id; body = a.body }) ∷ []

-- The sets that are named.
abbrev pub aps_of_slot : Parts → Slot → List Set
aps_of_slot q slot = set_of_slot slot (aps_at q.bodies slot.kind slot.id)

abbrev pub needed_aps : Parts → ℕ → List Set
needed_aps q target = flat_map (aps_of_slot q) (filter (is_named q target) all_slots)

-- The sets that the picture needs: these two, and then adaptation parameter sets by rising type and id.
abbrev pub needed_sets : Parts → ℕ → (sps pps : List Item) → List Set
needed_sets q target sps pps = an_sps sps ∷ a_pps pps ∷ needed_aps q target

-- ---- pictures

-- A picture is written so after others. Of the sets, which are rewritten, those that aren't resident are sent. Then come its messages,
-- its header, and the slices of the subpicture as they are, at least one (C.7).
pub record IsExtracted (target : ℕ) (level : Option ℕ) (q : Parts) (done : List Plan) (p : Plan) : Type 0 where
  pub sps : sps_reshaped.IsReshapedSps q.sps (sps_shape q target level) p.begun.sps
  pub pps : pps_reshaped.IsReshapedPps q.pps (pps_shape q target) p.begun.pps
  pub layout : p.begun.layout ≡ region_of q.layout target
  pub header : p.begun.header ≡ q.header.fields
  pub temporal_id : p.begun.temporal_id ≡ q.kind.temporal_id
  pub unit : p.begun.unit ≡ q.unit
  pub kind : p.kind ≡ q.kind
  pub slices : planned_slices p ≡ extracted_slices q target
  pub needed : List SetUnit
  pub sets : map (λ x. x.set) needed ≡ needed_sets q target p.begun.sps p.begun.pps
  pub units : AllByRecursion (λ x. IsSetUnit q.kind.temporal_id x.set x.unit) needed
  pub sent : p.sent ≡ filter (λ x. not (is_resident q.kind.temporal_id (sent_before done p) x)) needed
  pub sei : IsSeiUnit q.kind.temporal_id q.messages p.sei

-- Pictures, the latest first, are written as these plans.
abbrev pub AreExtracted : ℕ → Option ℕ → List Parts → List Plan → Type 0
AreExtracted target level [] [] = Unit {0}
AreExtracted target level (q ∷ qs) (p ∷ done) = IsExtracted target level q done p × AreExtracted target level qs done
AreExtracted target level [] (p ∷ done) = ⊥
AreExtracted target level (q ∷ qs) [] = ⊥

-- The bytes that are written for the subpicture of pictures, the latest first.
abbrev pub IsExtraction : ℕ → Option ℕ → List Parts → List ℕ → Type 0
IsExtraction target level qs bytes = (done : List Plan) × AreExtracted target level qs done × (bytes ≡ written (units_written done))
