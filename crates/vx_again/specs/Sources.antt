-- What is known of the pictures of a source that are merged, so that what is written of them can be read again. Our own.
use Rattle.std.specs.List.{AllByRecursion, range_with_len}
use Rattle.std.specs.Prelude.{◌≡◌, ℕ, ◌<◌, ◌≤◌, ◌==◌, true, false, IsTrue, List, [], length, map, filter, drop, All}
use Rattle.vx_fields.specs.declared.sps.TheConstants as sps
use Rattle.vx_fields.specs.declared.sh.TheConstants.{sh_slice_address}
use Rattle.vx_table.specs.Loaded.{number}
use Rattle.vx_table.specs.Scope.{is_set}
use Rattle.vx_annexb.specs.Emulation.{IsEscaped}
use Rattle.vx_annexb.specs.Laws.{CanStand}
use Rattle.vx_layout.specs.Layouts.{slices_in}
use Rattle.vx_sei.specs.Sei.{is_carried, spelled_length}
use Rattle.vx_rpl.specs.HeaderLists.{lists_of}
use Rattle.vx_sps.specs.Subpictures.{subpics_of}
use Rattle.vx_ph.specs.Filter.{filter_of}
use Rattle.vx_ph.specs.InForce.{in_force, structures}
use Rattle.vx_ph.specs.Picture.{IsHeader}
use Rattle.vx_pic.specs.Finished.{AreFinished}
use Rattle.vx_pic.specs.H266.{AreOfH266}
use Rattle.vx_pic.specs.Parts.{AreThere, IsReadAt, Parts, SlicePart, aps_named_by, parts_of, read_of}
use Rattle.vx_pic.specs.Readings.{Picture}
use Rattle.vx_pic.specs.Rules.{Readers, message_limit}
use Rattle.vx_pic.specs.Sets.{filter_items, is_qp, slice_qp}
use Rattle.vx_pic.specs.Streams.{pictures_of}
use Rattle.vx_sh.specs.InForce.{at_sets}
use Rattle.vx_pic.specs.Units.{class_of, slice_unit}
use Rattle.vx_write.specs.Again.{HasReadableSets}
use Rattle.vx_write.specs.InForce.{AreInForce}
use Rattle.vx_frame.specs.Bodies.{has_lmcs, has_scaling, is_chroma_scaled}

-- ---- a picture

-- Its header has what the SPS enables: LMCS, scaling lists, and the scaling of chroma residuals only where there is chroma (H.266 7.3.2.8).
pub record HasOwnMaps (q : Parts) : Type 0 where
  pub lmcs : IsTrue (has_lmcs q) → is_set (number q.sps sps.sps_lmcs_enabled_flag) ≡ true
  pub scaling : IsTrue (has_scaling q) → is_set (number q.sps sps.sps_explicit_scaling_list_enabled_flag) ≡ true
  pub chroma : is_set (number q.sps sps.sps_chroma_format_idc) ≡ false → is_chroma_scaled q ≡ false

-- A slice of it. Its header is read there: of one of the picture's subpictures, with the address and the lists of its items, and a QP in
-- range. It has a payload, which is in the unit with emulation prevention bytes; the sets that it names are there; and it has a filter
-- only if the SPS enables one (7.3.7).
pub record IsSourceSlice (q : Parts) (s : SlicePart) : Type 0 where
  pub read : IsReadAt (at_sets q.kind.nal_type q.sps q.pps q.header q.ids q.layout) s.header
  pub subpic : s.header.subpic < subpics_of q.sps
  pub address : s.header.address ≡ number s.header.fields sh_slice_address
  pub lists : s.header.lists ≡ lists_of (structures q.sps) (in_force q.sps q.pps) s.header.fields
  pub qp : is_qp q.sps (slice_qp q.pps q.header.fields (read_of s.header)) ≡ true
  pub some : s.payload < length s.unit
  pub payload : (rest : List ℕ) × IsEscaped rest (drop s.payload s.unit)
  pub there : AreThere q.bodies (aps_named_by q.pps q.header.fields s.header)
  pub filter : is_set (number q.sps sps.sps_alf_enabled_flag) ≡ false
      → filter_of (filter_items q.pps q.header.fields (read_of s.header)) ≡ []

-- A picture of a source, by its sets, its header, and its slices, which are all those of each subpicture in the order of their addresses.
-- Its adaptation parameter sets can be written, and its messages are carried.
pub record IsSource (q : Parts) : Type 0 where
  pub sets : AreInForce q
  pub header : IsHeader (structures q.sps) (in_force q.sps q.pps) q.header
  pub lists : q.header.lists ≡ lists_of (structures q.sps) (in_force q.sps q.pps) q.header.fields
  pub maps : HasOwnMaps q
  pub class : class_of q.kind.nal_type ≡ slice_unit
  pub tid : q.kind.temporal_id < 7
  pub slices : AllByRecursion (IsSourceSlice q) q.slices
  pub whole : length q.slices ≡ length q.layout.slices
  pub order : (k : ℕ) → k < length q.layout.subpics
      → map (λ s. s.header.address) (filter (λ s. s.header.subpic == k) q.slices) ≡ range_with_len 0 (length (slices_in q.layout k))
  pub readable : HasReadableSets q
  pub carried : All (λ m. IsTrue (is_carried m.kind)) q.messages
  pub short : spelled_length q.messages ≤ message_limit

-- ---- pictures

-- Pictures, the latest first, that can be merged with others: whole ones of a stream, each as said. It holds of the first ones too.
pub record CanBeMerged (R : Readers) (ps : List Picture) : Type 0 where
  pub finished : AreFinished R ps
  pub each : AllByRecursion (λ p. IsSource (parts_of p)) ps

-- The pictures of units that can stand in a byte stream can.
abbrev pub PicturesCanBeMerged : Type 0
PicturesCanBeMerged =
    (R : Readers) (units : List (List ℕ)) → AreOfH266 R → All CanStand units → CanBeMerged R (pictures_of R units)
