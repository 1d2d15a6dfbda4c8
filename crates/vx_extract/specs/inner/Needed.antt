-- The adaptation parameter sets that a picture's subpicture needs, place by place. Our own.
use Rattle.std.specs.Prelude.{◌≡◌, ℕ, ◌+◌, ◌/◌, ◌%◌, ◌<◌, ◌==◌, ◌&&◌, nat_lt, Bool, true, false, cond, List, [], ◌∷◌, ◌++◌, take, filter, flat_map, slice_set, Option, Some, None}
use Rattle.std.specs.List.{slice_index_or, fold}
use Rattle.vx_bits.specs.declared.list.Item.{Item}
use Rattle.vx_table.specs.Scope.{is_set}
use Rattle.vx_table.specs.Loaded.{number}
use Rattle.vx_fields.specs.declared.ph.TheConstants as ph
use Rattle.vx_fields.specs.declared.pps.TheConstants as pps
use Rattle.vx_aps.specs.declared.aps.TheConstants as aps
use Rattle.vx_pic.specs.Sets.{Slot, named, named_filters}
use Rattle.vx_pic.specs.Parts.{Parts, SlicePart, AreThere, id_count, slot_of, aps_named_by}
use Rattle.vx_pic.specs.Written.{Set, an_aps}
use Rattle.vx_write.specs.declared.written.NeededAps.{NeededAps}
use Rattle.vx_extract.specs.Written.{aps_of_slot, all_slots, is_named, named_in}

-- ---- places

-- How many types and ids there are.
abbrev pub slot_count : ℕ
slot_count = 24

-- The type and id at a place among all.
abbrev pub slot_at : ℕ → Slot
slot_at i = record { kind = i / id_count; id = i % id_count }

-- The flags of all places say which are named, and each set that is named is there.
pub record NamesOf (q : Parts) (target : ℕ) (flags : List Bool) : Type 0 where
  pub at : (i : ℕ) → i < slot_count → slice_index_or flags i false ≡ is_named q target (slot_at i)
  pub there : AreThere q.bodies (named_in q target)

-- The sets that are needed of the first places.
unfoldable pub needed_to : Parts → ℕ → ℕ → List Set
needed_to q target i = flat_map (aps_of_slot q) (filter (is_named q target) (take i all_slots))

-- A lent set, if there is one.
abbrev pub lent_set : Option NeededAps → List Set
lent_set None = []
lent_set (Some a) = an_aps (record { kind = a.kind; id = a.id; body = a.body.now }) ∷ []

-- ---- marks

-- The flag of a set's type and id is set, if there is such a place.
unfoldable pub marked : List Bool → Slot → List Bool
marked flags s = cond (nat_lt s.kind (aps.SCALING + 1) && nat_lt s.id id_count) (slice_set flags (slot_of s.kind s.id) true) flags

unfoldable pub all_marked : List Bool → List Slot → List Bool
all_marked flags slots = fold marked flags slots

-- What a slice names by itself: its filters, unless the picture header has them.
unfoldable pub own_names : (pps items : List Item) → List Slot
own_names p items = cond (is_set (number p pps.pps_alf_info_in_ph_flag)) [] (named_filters items)

-- What the picture header names: filters if it has them, and all else.
unfoldable pub header_filters : (pps header : List Item) → List Slot
header_filters p header = cond (is_set (number p pps.pps_alf_info_in_ph_flag)) (named_filters header) []

unfoldable pub header_names : (pps header : List Item) → List Slot
header_names p header =
    header_filters p header
    ++ (named aps.LMCS ph.ph_lmcs_aps_id header ++ named aps.SCALING ph.ph_scaling_list_aps_id header)

-- The slices of the subpicture among the first ones.
abbrev pub parts_to : Parts → ℕ → ℕ → List SlicePart
parts_to q target i = filter (λ s. s.header.subpic == target) (take i q.slices)

abbrev pub some_part : List SlicePart → Bool
some_part [] = false
some_part (s ∷ more) = true

-- The flags after the first slices: what those of the subpicture name by themselves is marked.
pub record WalkedTo (q : Parts) (target : ℕ) (none flags : List Bool) (some : Bool) (i : ℕ) : Type 0 where
  pub marks : flags ≡ all_marked none (flat_map (λ s. own_names q.pps s.header.fields) (parts_to q target i))
  pub found : some ≡ some_part (parts_to q target i)
  pub there : AreThere q.bodies (flat_map (λ s. aps_named_by q.pps q.header.fields s.header) (parts_to q target i))
