-- A slice of a round that is written is read again as it says.
use Rattle.std.proofs.Common.{◌≡◌, ℕ, ◌+◌, ◌<◌, ◌==◌, Bool, true, false, not, IsTrue, List, [], ◌∷◌, ◌++◌, drop, length, Ok, refl, ap, sym, subst, ◌∙◌, inl, inr, arith}
use Rattle.std.proofs.lemmas.Bool.{cases_Bool}
use Rattle.std.proofs.lemmas.List.{length-append, length-drop}
use Rattle.vx_bits.specs.declared.list.Item.{Item}
use Rattle.vx_annexb.specs.Emulation.{unescaped, unescaped_to}
use Rattle.vx_annexb.specs.Laws.{UnescapedJoins}
use Rattle.vx_annexb.specs.Places.{IsFirstFrom}
use Rattle.vx_fields.specs.declared.alf.TheConstants as alf
use Rattle.vx_fields.specs.declared.pps.TheConstants as pps_fields
use Rattle.vx_fields.specs.declared.ph.TheConstants.{ph_explicit_scaling_list_enabled_flag, ph_lmcs_enabled_flag}
use Rattle.vx_fields.specs.declared.sh.TheConstants.{sh_explicit_scaling_list_used_flag, sh_lmcs_used_flag, sh_qp_delta, sh_slice_address, sh_subpic_id}
use Rattle.vx_fields.specs.declared.sps.TheConstants as sps_fields
use Rattle.vx_table.specs.Depends.{has}
use Rattle.vx_table.specs.Loaded.{number}
use Rattle.vx_table.specs.Scope.{fresh, is_set, one_if}
use Rattle.vx_table.proofs.Loading.{number_of_shown}
use Rattle.vx_rpl.specs.HeaderLists.{lists_of}
use Rattle.vx_sps.specs.Depends as sps_set
use Rattle.vx_sps.specs.Reshaped.{item}
use Rattle.vx_table.proofs.With.{Passing, lacks, others_with, passing_append, passing_where, with_field, with_second}
use Rattle.vx_ph.specs.Filter.{filter_of, set_ids, with_ids}
use Rattle.vx_ph.specs.InForce.{in_force, structures}
use Rattle.vx_ph.specs.Reshaped.{HaveSameKept, IsApart, SameKeptAgree}
use Rattle.vx_sh.specs.declared.numbers.SliceNumbers.{SliceNumbers}
use Rattle.vx_sh.specs.declared.shape.ShShape.{ShShape}
use Rattle.vx_sh.specs.Depends.{kept_fields}
use Rattle.vx_sh.specs.InForce.{SliceScopesAreWhole, at_sets, in_force_at}
use Rattle.vx_sh.specs.Reshaped.{ReshapedIsReadAgain, stated_filter_items, sh_subpic_id_items, qp_items, stated_sh_items, use_items}
use Rattle.vx_sh.specs.Value.{BeginsSlice, FirstBitIsInside, IsSliceHeaderSpelling, TellsNumbers}
use Rattle.vx_sh.specs.Whole.{index_of}
use Rattle.vx_pic.specs.H266.{AreOfH266}
use Rattle.vx_pic.specs.H266 as h266
use Rattle.vx_pic.specs.H266Laws.{HaveOneAnswer}
use Rattle.vx_pic.specs.Parts.{Parts, SlicePart, read_of}
use Rattle.vx_pic.specs.Readings.{Begun, Slice}
use Rattle.vx_pic.specs.Rules.{Readers}
use Rattle.vx_pic.specs.Sets as sets
use Rattle.vx_pic.specs.Sets.{is_qp, signed, slice_qp}
use Rattle.vx_pic.specs.UnderSets.{picture_header_of, at_slice_of}
use Rattle.vx_pic.specs.Units.{class_of, has_header_inside, rbsp_of, slice_unit}
use Rattle.vx_pic.specs.Written.{SliceReads}
use Rattle.vx_frame.specs.Rounds.{picture_at}
use Rattle.vx_merge.specs.Headers.{AreNumbers, IsMergedSlice, id_for}
use Rattle.vx_merge.specs.Needed.{Ids}
use Rattle.vx_extract.proofs.AgainUnits.{same_signed}
use Rattle.vx_again.specs.Sources.{IsSourceSlice}
use Rattle.vx_again.proofs.Units.{IsSliceUnit, slice_unit_is}

-- ---- what is stated of a slice

-- fields of a filter stay so with other ids
filter_passes : (ids : ℕ → ℕ) (items : List Item) → Passing (λ n. has alf.ALL n) (with_ids ids (filter_of items))
filter_passes ids [] = tt
filter_passes ids (x ∷ items) = elim (cases_Bool (has alf.ALL x.field)) [
  | inr off ↦ rw off (filter_passes ids items)
  | inl on ↦ rw on (elim (cases_Bool (has set_ids x.field)) [
    | inl named ↦ rw named (on, filter_passes ids items)
    | inr plain ↦ rw plain (on, filter_passes ids items)
  ])
]

beside_qp : ℕ → Bool
beside_qp n = not (n == sh_qp_delta)

stated_delta : (n : SliceNumbers) (shape : ShShape) (ids : ℕ → ℕ) (items : List Item) → shape.filter.now ≡ with_ids ids (filter_of items)
    → with_field sh_qp_delta (stated_sh_items n shape) ≡ record { field = sh_qp_delta; value = shape.qp_delta } ∷ []
unfolding fresh beside_qp
stated_delta n shape ids items is =
    let first = sh_subpic_id_items n.sps.now shape.subpic_id in
    let filter_ = stated_filter_items n.sps.now shape.filter.now in
    let uses = use_items n.header.now.fields shape.uses_lmcs shape.uses_scaling in
    let has_filter = is_set (number n.sps.now sps_fields.sps_alf_enabled_flag) in
    let none_first : with_field sh_qp_delta first ≡ [] = lacks beside_qp sh_qp_delta first refl
    (refl, passing_where beside_qp (is_set (number n.sps.now sps_fields.sps_subpic_info_present_flag)) (item sh_subpic_id shape.subpic_id ∷ []) (refl, tt)) in
    let none_filter : with_field sh_qp_delta filter_ ≡ [] =
    lacks (λ m. has alf.ALL m) sh_qp_delta filter_ refl (passing_where (λ m. has alf.ALL m) has_filter shape.filter.now (subst (Passing (λ m. has alf.ALL m)) (sym is) (filter_passes ids items))) in
    let none_uses : with_field sh_qp_delta uses ≡ [] = lacks beside_qp sh_qp_delta uses refl
    (passing_append beside_qp _ _
    (passing_where beside_qp (is_set (number n.header.now.fields ph_lmcs_enabled_flag)) (item sh_lmcs_used_flag (one_if shape.uses_lmcs) ∷ []) (refl, tt))
    (passing_where beside_qp (is_set (number n.header.now.fields ph_explicit_scaling_list_enabled_flag)) (item sh_explicit_scaling_list_used_flag (one_if shape.uses_scaling) ∷ []) (refl, tt))) in
    with_second sh_qp_delta first ((filter_ ++ uses) ++ qp_items shape.qp_delta) none_first
    ∙ with_second sh_qp_delta (filter_ ++ uses) (qp_items shape.qp_delta) (with_second sh_qp_delta filter_ uses none_filter ∙ none_uses)

-- what is in force at a slice is its place in the picture
place_is : (nal_type : ℕ) (b : Begun) (n : SliceNumbers) → AreNumbers nal_type b n → in_force_at n ≡ at_slice_of nal_type b
place_is nal_type b n at =
    let type = at.type in
    let sps = at.sps in
    let pps = at.pps in
    let header = at.header in
    let ids = at.ids in
    let layout = at.layout in
    λ j. at_sets (type j) (sps j) (pps j) (header j) (ids j) (layout j)

-- What is known of a slice of source k, and of the sets that it is written under.
pub record IsKnownSlice (round : List Parts) (nal_type : ℕ) (b : Begun) (k : ℕ) (s : SlicePart) : Type 0 where
  pub source : IsSourceSlice (picture_at round k) s
  pub kept : HaveSameKept (picture_at round k).sps (picture_at round k).pps b.sps b.pps
  pub apart : IsApart b.pps
  pub init : signed b.pps pps_fields.pps_init_qp_minus26 ≡ signed (picture_at round 0).pps pps_fields.pps_init_qp_minus26
  pub low : b.temporal_id < 7
  pub class : class_of nal_type ≡ slice_unit

-- The laws of lower crates that this stands on.
pub record SliceLaws : Type 0 where
  pub joins : UnescapedJoins
  pub again : ReshapedIsReadAgain
  pub agree : SameKeptAgree
  pub whole : SliceScopesAreWhole
  pub first_bit : FirstBitIsInside

module _ (laws : SliceLaws) (round : List Parts) (ids : Ids) (nal_type : ℕ) (b : Begun) (k : ℕ) (s : SlicePart) (w : Slice)
    (known : IsKnownSlice round nal_type b k s) (m : IsMergedSlice round ids nal_type b k s w) where
  -- ---- its header tells the numbers beside the items

  same_number : (of : ℕ) → IsTrue (has kept_fields of) → number s.header.fields of ≡ number m.is.header.fields of
  same_number of there =
      number_of_shown kept_fields of s.header.fields there ∙ ap (λ xs. number xs of) (sym m.is.reshaped.fields.kept)
      ∙ sym (number_of_shown kept_fields of m.is.header.fields there)

  lists_told : m.is.header.lists ≡ lists_of (in_force_at m.is.numbers).table (in_force_at m.is.numbers).sets m.is.header.fields
  unfolding fresh
  lists_told =
      let q = picture_at round k in
      let same = (laws.agree q.sps q.pps b.sps b.pps known.kept).lists kept_fields s.header.fields m.is.header.fields refl (sym m.is.reshaped.fields.kept) in
      let sps = m.is.at.sps in
      let pps = m.is.at.pps in
      m.is.reshaped.lists ∙ known.source.lists ∙ same
      ∙ (λ j. lists_of (structures (sym sps j)) (in_force (sym sps j) (sym pps j)) m.is.header.fields)

  tells : TellsNumbers (in_force_at m.is.numbers) m.is.header
  unfolding fresh
  tells = record {
    inside = m.is.reshaped.inside ∙ ap is_set (sym m.is.reshaped.fields.apart);
    subpic = m.is.reshaped.subpic ∙ ap (λ i. index_of i m.is.numbers.ids.now) (sym m.is.reshaped.fields.id);
    address = m.is.reshaped.address ∙ known.source.address ∙ same_number sh_slice_address refl;
    lists = lists_told;
  }

  -- ---- it is read again

  unit : IsSliceUnit nal_type b.temporal_id m.is.bytes (drop s.payload s.unit) w.unit m.front
  unit = slice_unit_is laws.joins nal_type b.temporal_id m.is.bytes (drop s.payload s.unit) w.unit m.front known.low m.is.spelled.last m.is.made m.unit

  begins : BeginsSlice (at_slice_of nal_type b) (rbsp_of w.unit) m.is.header (length m.is.bytes)
  begins =
      let fields : b.header ≡ m.is.numbers.header.now.fields = sym (ap (λ h. h.fields) m.is.at.header) in
      let spelled : IsSliceHeaderSpelling (in_force_at m.is.numbers) m.is.header.fields m.is.numbers.header.now.fields m.is.bytes
      = subst (λ xs. IsSliceHeaderSpelling (in_force_at m.is.numbers) m.is.header.fields xs m.is.bytes) fields m.is.spelled in
      let read = laws.again s.header m.is.header m.is.shape m.is.numbers m.is.bytes (unescaped (drop s.payload s.unit)) m.is.reshaped tells spelled in
      let there = subst (λ n. BeginsSlice n (m.is.bytes ++ unescaped (drop s.payload s.unit)) m.is.header (length m.is.bytes)) (place_is nal_type b m.is.numbers m.is.at) read.begins in
      subst (λ rbsp. BeginsSlice (at_slice_of nal_type b) rbsp m.is.header (length m.is.bytes)) (sym unit.is.behind) there

  answer : h266.IsSlice nal_type b w.unit w.header
  answer =
      let Q : ℕ → Type 0 = λ place. IsFirstFrom (λ at. length (unescaped_to w.unit at) ≡ 2 + length m.is.bytes) 0 place in
      record {
        value = m.is.header;
        size = length m.is.bytes;
        begins = begins;
        fields = ap (λ h. h.fields) m.read;
        subpic = ap (λ h. h.subpic) m.read;
        payload = subst Q (sym (ap (λ h. h.payload) m.read)) unit.place;
      }

  pub outside : has_header_inside w.unit ≡ false
  unfolding has_header_inside
  outside =
      let long = laws.whole nal_type b.sps b.pps (picture_header_of b) in
      sym (laws.first_bit (at_slice_of nal_type b) (rbsp_of w.unit) m.is.header (length m.is.bytes) long begins) ∙ m.is.reshaped.inside

  -- ---- the QP

  delta_is : signed m.is.header.fields sh_qp_delta ≡ m.is.shape.qp_delta
  unfolding fresh
  delta_is =
      let q = picture_at round k in
      let stated_one = stated_delta m.is.numbers m.is.shape (id_for round ids q) (sets.filter_items q.pps q.header.fields (read_of s.header)) m.is.says.filter in
      let one : List Item = record { field = sh_qp_delta; value = m.is.shape.qp_delta } ∷ [] in
      let same : with_field sh_qp_delta m.is.header.fields ≡ with_field sh_qp_delta one
      = sym (others_with kept_fields sh_qp_delta m.is.header.fields refl)
      ∙ ap (λ xs. with_field sh_qp_delta xs) m.is.reshaped.fields.others ∙ stated_one in
      same_signed sh_qp_delta m.is.header.fields one same

  pub qp_is : slice_qp b.pps b.header w.header ≡ slice_qp (picture_at round k).pps (picture_at round k).header.fields (read_of s.header)
  unfolding slice_qp
  qp_is =
      let fields = ap (λ h. signed h.fields sh_qp_delta) m.read ∙ delta_is in
      let apart = known.apart.qp in
      let init = known.init in
      rw (apart, fields, init) m.is.says.qp

  qp_fits : is_qp b.sps (slice_qp b.pps b.header w.header) ≡ true
  unfolding is_qp fresh
  qp_fits =
      let depth = sps_fields.sps_bitdepth_minus8 in
      let q = picture_at round k in
      let bits : number b.sps depth ≡ number q.sps depth
      = number_of_shown sps_set.kept_sps_fields depth b.sps refl ∙ ap (λ xs. number xs depth) known.kept.of_sps
      ∙ sym (number_of_shown sps_set.kept_sps_fields depth q.sps refl) in
      let fits = known.source.qp in
      rw (bits, qp_is) fits

  -- ---- the whole

  payload_inside : w.header.payload < length w.unit
  payload_inside =
      let some = known.source.some in
      let size = ap length m.unit ∙ length-append m.front (drop s.payload s.unit) in
      let rest = length-drop s.payload s.unit in
      let place = ap (λ h. h.payload) m.read in
      omega (arith, some, size, rest, place)

  pub slice_reads : (R : Readers) → AreOfH266 R → HaveOneAnswer → SliceReads R b nal_type w
  slice_reads R of unique = record {
    plain = unit.is.plain slice_unit known.class;
    tid = unit.is.temporal;
    type = unit.is.type;
    header = unique.slice nal_type b w.unit (R.slice nal_type b w.unit) (Ok w.header) (of.slice nal_type b w.unit) answer;
    qp = qp_fits;
    payload = payload_inside;
  }
