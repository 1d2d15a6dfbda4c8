-- The same slice header at another place: under sets, a picture header and a layout that agree on what it depends on. Its
-- subpicture may have another index among others there. Extraction (`vx_extract`) relies on it.
use Rattle.std.specs.Prelude.{◌≡◌, ℕ, ◌<◌, Bool, not, List, [], ◌∷◌, filter, length}
use Rattle.vx_table.specs.Depends.{has, Agree}
use Rattle.vx_table.specs.Loaded.{number}
use Rattle.vx_fields.specs.declared.names.sh.TheConstants.{NUM_SLICES}
use Rattle.vx_fields.specs.declared.sh.TheConstants.{sh_picture_header_in_slice_header_flag, sh_subpic_id}
use Rattle.vx_fields.specs.declared.sps.TheConstants.{sps_subpic_info_present_flag, sps_subpic_id_len_minus1}
use Rattle.vx_fields.specs.declared.sps.TheConstants.{sps_entropy_coding_sync_enabled_flag, sps_entry_point_offsets_present_flag}
use Rattle.vx_ph.specs.Depends.{all_of_sets}
use Rattle.vx_sh.specs.declared.header.SliceHeader.{SliceHeader}
use Rattle.vx_sh.specs.Depends.{all_given}
use Rattle.vx_sh.specs.Whole.{At, index_of, num_slices_in_subpic, points_at}
use Rattle.vx_sh.specs.Value.{BeginsSlice}

-- What all fields after the id depend on, except for what the slice header itself gives before them,
abbrev pub given_behind : List ℕ
given_behind = filter (λ n. not (has (NUM_SLICES ∷ sh_picture_header_in_slice_header_flag ∷ []) n)) all_given

-- and what the id and the entry points depend on: everything of the sets and of the picture header in force that a slice header
-- uses.
abbrev pub given : List ℕ
given = sps_subpic_info_present_flag ∷ sps_subpic_id_len_minus1 ∷ sps_entropy_coding_sync_enabled_flag
    ∷ sps_entry_point_offsets_present_flag ∷ given_behind

-- Both have a subpicture with the id, of as many slices, with the same entry points by address.
pub record HaveSubpicture (n m : At) (id : ℕ) : Type 0 where
  pub known : index_of id m.ids < length m.ids
  pub slices : num_slices_in_subpic n.layout (index_of id n.ids) ≡ num_slices_in_subpic m.layout (index_of id m.ids)
  pub points : (has_points sync : Bool) (address : ℕ)
      → points_at n.layout has_points sync (index_of id n.ids) address ≡ points_at m.layout has_points sync (index_of id m.ids) address

-- Two places agree for the slices of the subpicture with the id: on the structures of lists, on what a picture header inside depends on,
-- on what a slice header does, and on the subpicture.
pub record AgreeAt (n m : At) (id : ℕ) : Type 0 where
  pub table : n.table ≡ m.table
  pub sets : Agree all_of_sets n.sets m.sets
  pub slice : Agree given n.slice m.slice
  pub subpic : HaveSubpicture n m id

-- The headers are the same except for the index of the subpicture.
pub record IsSameSlice (header other : SliceHeader) : Type 0 where
  pub inside : other.inside ≡ header.inside
  pub fields : other.fields ≡ header.fields
  pub address : other.address ≡ header.address
  pub lists : other.lists ≡ header.lists

-- If an RBSP begins with a slice header at one place, then it begins with the same header, of the same bytes, at another place that
-- agrees with it for its subpicture. Only the index of the subpicture is that of its id there.
abbrev pub SliceReadElsewhere : Type 0
SliceReadElsewhere = (n m : At) (rbsp : List ℕ) (header : SliceHeader) (size : ℕ) → length n.slice ≡ 1024
    → AgreeAt n m (number header.fields sh_subpic_id) → BeginsSlice n rbsp header size
    → (other : SliceHeader) × BeginsSlice m rbsp other size × IsSameSlice header other
    × (other.subpic ≡ index_of (number header.fields sh_subpic_id) m.ids)
