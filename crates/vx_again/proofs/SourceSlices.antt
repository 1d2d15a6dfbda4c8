-- The pictures of units that can stand in a byte stream can be merged: their headers and slices.
use Rattle.std.proofs.Common.{◌≡◌, ℕ, ℤ, zero, suc, ◌+◌, ◌<◌, ◌==◌, Bool, true, false, cond, List, [], ◌∷◌, ◌++◌, length, map, take, drop, slice_index, Option, Some, None, Ok, refl, ap, sym, subst, ◌∙◌, inl, inr, arith}
use Rattle.std.specs.Prelude.{filter, flat_map}
use Rattle.std.specs.List.{AllByRecursion}
use Rattle.std.proofs.lemmas.Bool.{cases_Bool, eq-eqb, eqb-true, true≢false}
use Rattle.vx_bits.specs.declared.list.Item.{Item}
use Rattle.vx_bits.specs.Codes.{EndsInNoZero}
use Rattle.vx_fields.specs.declared.pps.TheConstants as pps_fields
use Rattle.vx_fields.specs.declared.names.sh.TheConstants.{SUBPIC}
use Rattle.vx_fields.specs.declared.sh.TheConstants.{sh_picture_header_in_slice_header_flag, sh_slice_address}
use Rattle.vx_fields.specs.declared.sps.TheConstants as sps_fields
use Rattle.vx_table.specs.Loaded.{number}
use Rattle.vx_table.specs.Scope.{is_set}
use Rattle.vx_table.specs.Forms.{Form, after, coding_at, form_of, has_value, limits_at, one_field, part}
use Rattle.vx_table.specs.Spelling.{Spells, at_end, behind, item_of, items_along}
use Rattle.vx_table.specs.Values.{Follows, through, to_end}
use Rattle.vx_table.proofs.Joined.{items_joined, parted}
use Rattle.vx_table.proofs.Spelled.{is_value}
use Rattle.vx_annexb.specs.Emulation.{IsEscaped, unescaped, unescaped_to}
use Rattle.vx_annexb.specs.Laws.{CanStand, EscapedSplits}
use Rattle.vx_aps.specs.declared.aps.Aps.{Aps}
use Rattle.vx_ph.specs.laws.Enabled.{NoFilter}
use Rattle.vx_ph.specs.Filter.{filter_of}
use Rattle.vx_ph.specs.InForce.{in_force, structures}
use Rattle.vx_ph.specs.declared.tables.TheConstants.{TRAILING}
use Rattle.vx_ph.specs.Header.{header_form}
use Rattle.vx_ph.specs.Picture.{ArePictureHeaderFields, IsHeader, unit_form}
use Rattle.vx_sh.specs.laws.Enabled.{NoSliceFilter}
use Rattle.vx_sh.specs.InForce.{SliceScopesAreWhole}
use Rattle.vx_sh.specs.Value as value
use Rattle.vx_sh.specs.Value.{NumbersAreTold}
use Rattle.vx_sh.specs.Whole.{At}
use Rattle.vx_pic.specs.H266.{AnswersAt, AreOfH266, IsSlice, IsSliceAnswer, form_in, header_place}
use Rattle.vx_pic.specs.Finished.{IsSoundPicture}
use Rattle.vx_pic.specs.Parts.{AreThere, IsReadAt, SlicePart, aps_named_by, parts_of, slice_header_of, slice_part}
use Rattle.vx_pic.specs.PictureLayout.{ids_of}
use Rattle.vx_pic.specs.Readings.{Begun, Picture, Slice}
use Rattle.vx_pic.specs.Rules.{Readers}
use Rattle.vx_pic.specs.Sets.{SliceHeader, Slot, address_of, filter_items, slice_qp}
use Rattle.vx_pic.specs.UnderSets as under
use Rattle.vx_pic.specs.UnderSets.{picture_header_of}
use Rattle.vx_pic.specs.Written.{HeadReads, SliceReads}
use Rattle.vx_pic.proofs.Ids.{ids_count}
use Rattle.vx_write.specs.InForce.{AreInForce}
use Rattle.vx_write.proofs.Ending.{header_ends}
use Rattle.vx_write.proofs.UnitsRead.{front_stays}
use Rattle.std.proofs.lemmas.List.{append-nil, length-map}
use Rattle.std.proofs.lemmas.List.Elements.{recursion_from_All}
use Rattle.vx_fields.specs.declared.ph.TheConstants as ph
use Rattle.vx_ph.specs.laws.Enabled.{NoChromaScaling, NoLmcs, NoScaling}
use Rattle.vx_pic.specs.Finished.{AreFinished, PicturesAreFinished}
use Rattle.vx_pic.specs.Readings.{is_whole}
use Rattle.vx_pic.specs.Streams.{pictures_of}
use Rattle.vx_pic.specs.Units.{class_of, rbsp_of, slice_unit}
use Rattle.vx_pic.specs.Whole.{HasAllInOrder, SubpicturesAreWhole}
use Rattle.vx_pic.proofs.Sublayers.{low_tid}
use Rattle.vx_extract.specs.Ready.{HasItsReadings, PicturesAreInForce, PicturesHaveTheirReadings}
use Rattle.vx_extract.proofs.WholeSource.{OfPicture, have_units}
use Rattle.vx_again.specs.Sources.{HasOwnMaps, IsSource, IsSourceSlice, PicturesCanBeMerged}
use Rattle.vx_again.proofs.Named.{there_back, there_front}

-- ---- the header

-- what is spelled goes through
spells_follow : {A : Type 0} {total : ℕ} {form : Form A} {w : List ℤ} {left rest : List Bool} → Spells total form w left rest
    → (a : A) × Follows form w a
spells_follow (at_end {a}) = (a, to_end)
spells_follow (behind stands more) = let on = spells_follow more in (on.0, through (is_value stands) on.1)

-- the trailing of a PH unit has no item
ends_bare : (s : List ℕ) (values : List ℤ) (end : List ℕ) → Follows (form_of TRAILING s) values end
    → items_along (form_of TRAILING s) values ≡ []
unfolding form_of part one_field coding_at limits_at after has_value item_of
ends_bare s values end (through value to_end) = refl

-- what was read of a header is one
header_answer : (inside : Bool) (b : Begun) (rbsp : List ℕ)
    → AnswersAt (form_in inside (structures b.sps) (in_force b.sps b.pps)) (header_place inside rbsp) (Ok b.header)
    → ArePictureHeaderFields (structures b.sps) (in_force b.sps b.pps) b.header
unfolding unit_form
header_answer true b rbsp begins =
    let on = spells_follow begins.spelled in
    record { values = begins.values; end = on.0; follows = on.1; all = begins.all }
header_answer false b rbsp begins =
    let s : List ℕ = in_force b.sps b.pps in
    let header : List ℤ → List Item = items_along (header_form (structures b.sps) s) in
    let on = spells_follow begins.spelled in
    let p = parted (header_form (structures b.sps) s) (form_of TRAILING) on.1 in
    record {
      values = p.front;
      end = p.mid;
      follows = p.first;
      all = begins.all ∙ ap (items_along (unit_form (structures b.sps) s)) p.all ∙ items_joined (form_of TRAILING) p.others p.first
          ∙ ap (λ more. header p.front ++ more) (ends_bare p.mid p.others on.0 p.second) ∙ append-nil (header p.front);
    }

module _ (R : Readers) (of : AreOfH266 R) where
  header_is : (unit : Option (List ℕ)) (b : Begun) (first : Slice) → HeadReads R unit b first
      → IsHeader (structures b.sps) (in_force b.sps b.pps) (picture_header_of b)
  header_is None b first head = record {
    fields = header_answer true b (rbsp_of first.unit) (subst (λ x. AnswersAt (form_in true (structures b.sps) (in_force b.sps b.pps)) (header_place true (rbsp_of first.unit)) x) head.0.header (of.header true b.sps b.pps (rbsp_of first.unit)));
    lists = refl;
  }
  header_is (Some u) b first head = record {
    fields = header_answer false b (rbsp_of u) (subst (λ x. AnswersAt (form_in false (structures b.sps) (in_force b.sps b.pps)) (header_place false (rbsp_of u)) x) head.1.header (of.header false b.sps b.pps (rbsp_of u)));
    lists = refl;
  }

-- ---- a slice header

-- the same items are fields too
same_fields : (n : At) (fields others : List Item) (inside : List ℤ) → fields ≡ others → (f : value.AreFields n others inside)
    → (g : value.AreFields n fields inside) × (g.end ≡ f.end)
same_fields n fields others inside same f = (record { first = f.first; behind = f.behind; at = f.at; end = f.end; begins = f.begins; goes_on = f.goes_on; ends = f.ends; all = same ∙ f.all }, refl)

module _ (scopes : SliceScopesAreWhole) (numbers_told : NumbersAreTold) (nal_type : ℕ) (b : Begun) (unit : List ℕ) (h : SliceHeader)
    (is : IsSlice nal_type b unit h) where
  abbrev n : At
  n = under.at_slice_of nal_type b

  told : value.AreToldBySlice n is.value.fields is.begins.fields.end
  told = numbers_told n is.value.fields is.begins.inside is.begins.fields (scopes nal_type b.sps b.pps (picture_header_of b))

  pub read_at : IsReadAt n (slice_header_of b h)
  unfolding address_of
  read_at =
      let own = same_fields n h.fields is.value.fields is.begins.inside is.fields is.begins.fields in
      record {
        inside = is.begins.inside;
        fields = own.0;
        numbers = record {
          inside = ap is_set (ap (λ xs. number xs sh_picture_header_in_slice_header_flag) is.fields ∙ sym told.inside ∙ ap (λ e. slice_index e sh_picture_header_in_slice_header_flag) (sym own.1));
          subpic = is.subpic ∙ is.begins.numbers.subpic ∙ ap (λ e. slice_index e SUBPIC) (sym own.1);
          address = ap (λ xs. number xs sh_slice_address) is.fields ∙ sym told.address
              ∙ ap (λ e. slice_index e sh_slice_address) (sym own.1);
          lists = refl;
        };
      }

  pub subpic_known : h.subpic < length (ids_of b.sps b.pps)
  subpic_known = let low = told.known in subst (λ k. k < length (ids_of b.sps b.pps)) (sym (is.subpic ∙ is.begins.numbers.subpic)) low

-- ---- the payload of a slice

payload_of : EscapedSplits → (nal_type : ℕ) (b : Begun) (unit : List ℕ) (h : SliceHeader) → CanStand unit → IsSlice nal_type b unit h
    → (rest : List ℕ) × IsEscaped rest (drop h.payload unit)
unfolding rbsp_of
payload_of splits nal_type b unit h stands is = by_length (length unit) refl
  where
    by_length : (size : ℕ) → length unit ≡ size → (rest : List ℕ) × IsEscaped rest (drop h.payload unit)
    by_length zero none = let two = stands.sound.header.bytes in absurd (omega (arith, two, none))
    by_length (suc zero) one = let two = stands.sound.header.bytes in absurd (omega (arith, two, one))
    by_length (suc (suc more)) many =
        let stays = front_stays unit more in
        let all : unescaped unit ≡ slice_index unit 0 ∷ slice_index unit 1 ∷ stays.0 = ap (unescaped_to unit) many ∙ stays.1 in
        let some = stands.sound.header.temporal in
        let own : EndsInNoZero (take is.size stays.0) = subst (λ r. EndsInNoZero (take is.size (drop 2 r))) all is.begins.last in
        let front : EndsInNoZero (take (2 + is.size) (unescaped unit)) =
        subst (λ r. EndsInNoZero (take (2 + is.size) r)) (sym all) (let two : 2 + is.size ≡ suc (suc is.size) = omega arith in subst (λ m. EndsInNoZero (take m (slice_index unit 0 ∷ slice_index unit 1 ∷ stays.0))) (sym two) (header_ends (slice_index unit 0) (slice_index unit 1) (take is.size stays.0) (omega (arith, some)) own)) in
        let parts = splits (unescaped unit) unit (2 + is.size) h.payload (record { rules = stands.sound.emulation; last = stands.last; is = refl }) is.payload.here front in
        (drop (2 + is.size) (unescaped unit), parts.1)

-- ---- what each names

module _ (sets : List (Option Aps)) (names : SlicePart → List Slot) where
  abbrev named_of : ℕ → List SlicePart → List Slot
  named_of k slices = flat_map names (filter (λ (s : SlicePart). s.header.subpic == k) slices)

  -- what those of each subpicture name is there, so that it is what each names
  pub each_there : (slices : List SlicePart) → ((k : ℕ) → AreThere sets (named_of k slices))
      → AllByRecursion (λ s. AreThere sets (names s)) slices
  each_there [] there = tt
  each_there (s ∷ slices) there = (first, each_there slices rest)
    where
      first : AreThere sets (names s)
      first =
          let on : (s.header.subpic == s.header.subpic) ≡ true = eq-eqb s.header.subpic s.header.subpic refl in
          there_front sets (names s) (named_of s.header.subpic slices) (subst (λ t. AreThere sets (flat_map names (cond t (s ∷ filter (λ (x : SlicePart). x.header.subpic == s.header.subpic) slices) (filter (λ (x : SlicePart). x.header.subpic == s.header.subpic) slices)))) on (there s.header.subpic))

      rest : (k : ℕ) → AreThere sets (named_of k slices)
      rest k = elim (cases_Bool (s.header.subpic == k)) [
        | inl on ↦ there_back sets (names s) (named_of k slices) (subst (λ t. AreThere sets (flat_map names (cond t (s ∷ filter (λ (x : SlicePart). x.header.subpic == k) slices) (filter (λ (x : SlicePart). x.header.subpic == k) slices)))) on (there k))
        | inr off ↦ subst (λ t. AreThere sets (flat_map names (cond t (s ∷ filter (λ (x : SlicePart). x.header.subpic == k) slices) (filter (λ (x : SlicePart). x.header.subpic == k) slices)))) off (there k)
      ]

-- ---- a picture

module _ (splits : EscapedSplits) (scopes : SliceScopesAreWhole) (numbers_told : NumbersAreTold) (no_filter : NoFilter)
    (no_slice_filter : NoSliceFilter) (R : Readers) (of : AreOfH266 R) (earlier : List Picture) (p : Picture)
    (sound : IsSoundPicture R earlier p) (are : AreInForce (parts_of p)) where
  abbrev b : Begun
  b = p.begun

  own_header : IsHeader (structures b.sps) (in_force b.sps b.pps) (picture_header_of b)
  own_header = header_is R of b.unit b sound.first sound.head

  -- no filter stands where the SPS has none
  filter_off : (unit : List ℕ) (h : SliceHeader) → IsSlice p.kind.nal_type b unit h
      → is_set (number b.sps sps_fields.sps_alf_enabled_flag) ≡ false → filter_of (filter_items b.pps b.header h) ≡ []
  filter_off unit h is off = elim (cases_Bool (is_set (number b.pps pps_fields.pps_alf_info_in_ph_flag))) [
    | inl there ↦ ap (λ t. filter_of (cond t b.header h.fields)) there ∙ no_filter b.sps b.pps (picture_header_of b) own_header off
    | inr apart ↦ ap (λ t. filter_of (cond t b.header h.fields)) apart
        ∙ no_slice_filter p.kind.nal_type b.sps b.pps (picture_header_of b) (ids_of b.sps b.pps) b.layout h.fields is.begins.inside (same_fields (under.at_slice_of p.kind.nal_type b) h.fields is.value.fields is.begins.inside is.fields is.begins.fields).0 off
  ]

  one_slice : (s : Slice) → SliceReads R b p.kind.nal_type s → CanStand s.unit
      → AreThere (parts_of p).bodies (aps_named_by b.pps b.header (slice_header_of b s.header)) → IsSourceSlice (parts_of p) (slice_part b s)
  unfolding address_of slice_qp
  one_slice s reads stands there =
      let is : IsSlice p.kind.nal_type b s.unit s.header = subst (IsSliceAnswer p.kind.nal_type b s.unit) reads.header (of.slice p.kind.nal_type b s.unit) in
      let known = subpic_known scopes numbers_told p.kind.nal_type b s.unit s.header is in
      let count = ids_count b.sps b.pps are.pps are.made.ids.placed in
      record {
        read = read_at scopes numbers_told p.kind.nal_type b s.unit s.header is;
        subpic = omega (arith, known, count);
        address = refl;
        lists = refl;
        qp = reads.qp;
        some = reads.payload;
        payload = payload_of splits p.kind.nal_type b s.unit s.header stands is;
        there = there;
        filter = filter_off s.unit s.header is;
      }

  each_slice : (slices : List Slice) → AllByRecursion (SliceReads R b p.kind.nal_type) slices
      → AllByRecursion (λ (s : Slice). CanStand s.unit) slices
      → AllByRecursion (λ (s : SlicePart). AreThere (parts_of p).bodies (aps_named_by b.pps b.header s.header)) (map (slice_part b) slices)
      → AllByRecursion (IsSourceSlice (parts_of p)) (map (slice_part b) slices)
  each_slice [] reads stand there = tt
  each_slice (s ∷ slices) reads stand there = (one_slice s reads.0 stand.0 there.0, each_slice slices reads.1 stand.1 there.1)

  -- ---- the whole

  first_class : (slices : List Slice) (first : Slice) (more : List Slice) → slices ≡ first ∷ more
      → AllByRecursion (SliceReads R b p.kind.nal_type) slices → class_of p.kind.nal_type ≡ slice_unit
  first_class slices first more same reads =
      let one : SliceReads R b p.kind.nal_type first = (subst (AllByRecursion (SliceReads R b p.kind.nal_type)) same reads).0 in
      ap class_of (sym one.type) ∙ one.plain.class

  own_maps : NoLmcs → NoScaling → NoChromaScaling → HasOwnMaps (parts_of p)
  own_maps no_lmcs no_scaling no_chroma = record {
    lmcs = λ on. unless (is_set (number b.sps sps_fields.sps_lmcs_enabled_flag)) (number b.header ph.ph_lmcs_enabled_flag) on (no_lmcs b.sps b.pps (picture_header_of b) own_header);
    scaling = λ on. unless (is_set (number b.sps sps_fields.sps_explicit_scaling_list_enabled_flag)) (number b.header ph.ph_explicit_scaling_list_enabled_flag) on (no_scaling b.sps b.pps (picture_header_of b) own_header);
    chroma = λ off. ap is_set (no_chroma b.sps b.pps (picture_header_of b) own_header off);
  }
    where
      unless : (enabled : Bool) (n : ℕ) → is_set n ≡ true → (enabled ≡ false → n ≡ 0) → enabled ≡ true
      unless true n on off = refl
      unless false n on off = absurd (true≢false (sym on ∙ ap is_set (off refl)))

  pub source_is : NoLmcs → NoScaling → NoChromaScaling → is_whole p ≡ true → HasItsReadings p → HasAllInOrder p
      → AllByRecursion (λ (s : Slice). CanStand s.unit) p.slices → IsSource (parts_of p)
  unfolding address_of
  source_is no_lmcs no_scaling no_chroma whole readings order stand = record {
    sets = are;
    header = own_header;
    lists = refl;
    maps = own_maps no_lmcs no_scaling no_chroma;
    class = first_class p.slices sound.first sound.more sound.slices sound.each;
    tid = low_tid R earlier p sound;
    slices = each_slice p.slices sound.each stand (each_there (parts_of p).bodies (λ s. aps_named_by b.pps b.header s.header) (parts_of p).slices readings.there);
    whole = length-map p.slices (slice_part b) ∙ eqb-true (length p.slices) (length b.layout.slices) whole;
    order = λ k short. shown k p.slices ∙ order k short;
    readable = readings.readable;
    carried = readings.carried;
    short = sound.messages;
  }
    where
      shown : (k : ℕ) (slices : List Slice)
          → map (λ (s : SlicePart). s.header.address)
          (filter (λ (s : SlicePart). s.header.subpic == k) (map (slice_part b) slices)) ≡ map (λ (s : Slice). address_of s.header)
          (filter (λ (s : Slice). s.header.subpic == k) slices)
      shown k [] = refl
      shown k (s ∷ slices) = elim (cases_Bool (s.header.subpic == k)) [
        | inl on ↦ rw on (ap (λ ns. address_of s.header ∷ ns) (shown k slices))
        | inr off ↦ rw off (shown k slices)
      ]

-- ---- all pictures

-- the laws of lower crates that this stands on
pub record Laws : Type 0 where
  pub splits : EscapedSplits
  pub scopes : SliceScopesAreWhole
  pub told : NumbersAreTold
  pub no_filter : NoFilter
  pub no_slice_filter : NoSliceFilter
  pub no_lmcs : NoLmcs
  pub no_scaling : NoScaling
  pub no_chroma : NoChromaScaling
  pub finished : PicturesAreFinished
  pub in_force : PicturesAreInForce
  pub readings : PicturesHaveTheirReadings
  pub whole : SubpicturesAreWhole

module _ (laws : Laws) (R : Readers) (of : AreOfH266 R) where
  each_source : (ps : List Picture) → AreFinished R ps → AllByRecursion (λ p. AreInForce (parts_of p)) ps → AllByRecursion HasItsReadings ps
      → AllByRecursion HasAllInOrder ps → AllByRecursion (OfPicture CanStand) ps
      → AllByRecursion (λ p. IsSource (parts_of p)) ps
  each_source [] finished are readings order stand = tt
  each_source (p ∷ earlier) finished are readings order stand = (
    source_is laws.splits laws.scopes laws.told laws.no_filter laws.no_slice_filter R of earlier p finished.0 are.0 laws.no_lmcs laws.no_scaling laws.no_chroma finished.1 readings.0 order.0 stand.0.1,
    each_source earlier finished.2 are.1 readings.1 order.1 stand.1,
  )

pub pictures_can_be_merged : Laws → PicturesCanBeMerged
pictures_can_be_merged laws R units of stand = record {
  finished = laws.finished R units;
  each = each_source laws R of (pictures_of R units) (laws.finished R units) (laws.in_force R units of) (laws.readings R units of) (laws.whole R units of) (have_units CanStand R units of (recursion_from_All CanStand units stand));
}
