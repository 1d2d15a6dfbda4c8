-- A slice of a merged picture that is read again has the decoding input that it has in its source.
use Rattle.std.proofs.Common.{◌≡◌, ℕ, pos, ◌<◌, ◌&&◌, ◌||◌, Bool, true, false, cond, IsTrue, List, [], length, Option, Some, None, refl, ap, sym}
use Rattle.std.proofs.Common.{◌∙◌, inl, inr, arith}
use Rattle.std.specs.Prelude.{drop, flat_map, option_and_then, option_map, unwrap_or}
use Rattle.std.proofs.Math.Seq.{drop-append_seam}
use Rattle.std.proofs.lemmas.Bool.{and_parts, cases_Bool}
use Rattle.vx_bits.specs.declared.list.Item.{Item}
use Rattle.vx_bits.specs.Fields.{first_value}
use Rattle.vx_fields.specs.declared.alf.TheConstants as alf
use Rattle.vx_fields.specs.declared.ph.TheConstants as ph
use Rattle.vx_fields.specs.declared.pps.TheConstants as pps
use Rattle.vx_fields.specs.declared.sh.TheConstants as sh
use Rattle.vx_fields.specs.declared.sps.TheConstants as sps
use Rattle.vx_table.specs.Depends.{has}
use Rattle.vx_table.specs.Loaded.{number}
use Rattle.vx_table.specs.Scope.{fresh, is_set, natural}
use Rattle.vx_table.proofs.Loading.{number_of_shown}
use Rattle.vx_table.proofs.With.{with_field}
use Rattle.vx_aps.specs.declared.aps.TheConstants as aps
use Rattle.vx_sps.specs.Depends as sps_set
use Rattle.vx_table.specs.Rewritten.{where_so}
use Rattle.vx_pps.specs.laws.Sets.{ReadSlicesAreListable, SetsTellPartitions}
use Rattle.vx_ph.specs.Depends as ph_set
use Rattle.vx_ph.specs.Filter.{filter_of, with_ids}
use Rattle.vx_ph.specs.Reshaped.{AgreeOnKept, HaveSameKept, IsApart}
use Rattle.vx_ph.specs.declared.shape.LmcsShape.{LmcsShape}
use Rattle.vx_ph.proofs.Sets.{of_pps}
use Rattle.vx_sh.specs.Depends.{kept_fields}
use Rattle.vx_sh.specs.Reshaped as reshaped
use Rattle.vx_sh.specs.declared.header.SliceHeader.{SliceHeader as SliceValue}
use Rattle.vx_pic.specs.declared.kind.Kind.{Kind}
use Rattle.vx_pic.specs.Inputs.{Input, alf_of, body_of, header_fields, input_in}
use Rattle.vx_pic.specs.Inputs.{is_used, lists_in_force, lmcs_of, named_body, place_in, scaling_of, kept_slice_items}
use Rattle.vx_pic.specs.Parts as parts
use Rattle.vx_pic.specs.Parts.{AreThere, Parts, SlicePart, parts_of, slice_part}
use Rattle.vx_pic.specs.Readings.{Slice}
use Rattle.vx_pic.specs.Resident.{NeededIsBody, readings_of_plans}
use Rattle.vx_pic.specs.Sets.{address_of, filter_items, named_filters, names_of, signed, slice_qp}
use Rattle.vx_pic.specs.Units.{class_of}
use Rattle.vx_pic.specs.Written.{Plan, planned}
use Rattle.vx_write.specs.Again.{SendsItsSets}
use Rattle.vx_frame.specs.declared.corner.Corner.{Corner}
use Rattle.vx_frame.specs.Bodies.{filters_in, filters_of, has_lmcs, has_scaling, is_chroma_scaled, lmcs_body, scaling_body, alf_bodies}
use Rattle.vx_frame.specs.Rounds.{picture_at}
use Rattle.vx_frame.specs.Shapes.{of_lowest}
use Rattle.vx_frame.proofs.Passing.{chroma_as_lowest, header_alike, lmcs_as_lowest, scaling_lists_as_lowest}
use Rattle.vx_merge.specs.Headers.{IsMergedSlice, id_for, lmcs_shape, ph_shape}
use Rattle.vx_merge.specs.Merging.{Judges}
use Rattle.vx_merge.specs.Needed.{id_of_body}
use Rattle.vx_merge.specs.Written.{IsMerged}
use Rattle.vx_again.specs.Frames.{AreFrameSets, IsReadyRound}
use Rattle.vx_again.specs.Sources.{IsSource, IsSourceSlice}
use Rattle.vx_again.proofs.Bodies.{HasBody}
use Rattle.vx_again.proofs.Facts.{apart, kept_same, sets_of, some_round, source_at}
use Rattle.vx_again.proofs.FoundBodies.{alf_found, alf_low, lmcs_found, no_lmcs, no_scaling, scaling_found}
use Rattle.vx_again.proofs.Frames.{told}
use Rattle.vx_again.proofs.Named.{there_front}
use Rattle.vx_again.proofs.SameFilters.{filter_same, with_none}
use Rattle.vx_again.proofs.Slices.{IsKnownSlice, SliceLaws, qp_is}
use Rattle.vx_again.proofs.Stated.{chroma_is, filter_with, lmcs_id, lmcs_off, lmcs_on, lmcs_used, scaling_id, scaling_off, scaling_on, scaling_used}

-- ---- inputs

record SameInput (a b : Input) : Type 0 where
  kind : a.kind ≡ b.kind
  sps : a.sps ≡ b.sps
  pps : a.pps ≡ b.pps
  header : a.header ≡ b.header
  slice : a.slice ≡ b.slice
  alf : a.alf ≡ b.alf
  lmcs : a.lmcs ≡ b.lmcs
  scaling : a.scaling ≡ b.scaling
  lists : a.lists ≡ b.lists
  slice_qp : a.slice_qp ≡ b.slice_qp
  place : a.place ≡ b.place
  payload : a.payload ≡ b.payload

same_input : (a b : Input) → SameInput a b → a ≡ b
same_input a b same =
    let kind = same.kind in
    let sps = same.sps in
    let pps = same.pps in
    let header = same.header in
    let slice = same.slice in
    let alf = same.alf in
    let lmcs = same.lmcs in
    let scaling = same.scaling in
    let lists = same.lists in
    let qp = same.slice_qp in
    let place = same.place in
    let payload = same.payload in
    λ j. record {
      kind = kind j;
      sps = sps j;
      pps = pps j;
      header = header j;
      slice = slice j;
      alf = alf j;
      lmcs = lmcs j;
      scaling = scaling j;
      lists = lists j;
      slice_qp = qp j;
      place = place j;
      payload = payload j;
    }

-- ---- what is used of LMCS and of scaling lists

never : (b : Bool) → (b && false) ≡ false
never true = refl
never false = refl

small_id : (id : ℕ) → id < 8 → natural (pos id) ≡ id
unfolding natural
small_id id low = omega (arith, low)

-- where it isn't used on either side, nothing is in force; where it is, the body is found at the id that the header names
module _ {A : Type 0} (on used : Bool) (kind of : ℕ) (r : Parts) (items : List Item) (f g : List ℕ → A) where
  unused : used ≡ false → (own : Option (List ℕ))
      → cond (on && used) (option_map f (named_body r kind of items)) None ≡ cond used (option_map g own) None
  unused off own =
      ap (λ b. cond b (option_map f (named_body r kind of items)) None) (ap (λ b. on && b) off ∙ never on)
      ∙ sym (ap (λ b. cond b (option_map g own) None) off)

  bodiless : on ≡ false → used ≡ true → (own : Option (List ℕ)) → own ≡ None
      → cond (on && used) (option_map f (named_body r kind of items)) None ≡ cond used (option_map g own) None
  bodiless off used_ own none =
      ap (λ b. cond (b && used) (option_map f (named_body r kind of items)) None) off
      ∙ sym (ap (λ b. cond b (option_map g own) None) used_ ∙ ap (option_map g) none)

  in_force_same : on ≡ true → used ≡ true → (id : ℕ) → first_value items of ≡ Some (pos id) → id < 8
      → (body : List ℕ) → body_of r kind id ≡ Some body
      → f body ≡ g body → (own : Option (List ℕ)) → own ≡ Some body
      → cond (on && used) (option_map f (named_body r kind of items)) None ≡ cond used (option_map g own) None
  in_force_same on_ used_ id at low body found same own is =
      let here : named_body r kind of items ≡ Some body
      = ap (option_and_then (λ n. body_of r kind (natural n))) at ∙ ap (body_of r kind) (small_id id low) ∙ found in
      ap (λ b. cond (b && used) (option_map f (named_body r kind of items)) None) on_
      ∙ ap (λ b. cond b (option_map f (named_body r kind of items)) None) used_
      ∙ ap (option_map f) here ∙ ap Some same
      ∙ sym (ap (λ b. cond b (option_map g own) None) used_ ∙ ap (option_map g) is)

-- ---- a slice

module _ (tells : SetsTellPartitions) (reads : ReadSlicesAreListable) (laws : SliceLaws) (needs : NeededIsBody)
    (corners : List Corner) (level : Option ℕ) (round : List Parts) (done : List Plan) (p : Plan) (ready : IsReadyRound corners round) (passes : Judges corners round None)
    (is : IsMerged corners level round done p) (sent : SendsItsSets is.needed done p) where
  abbrev r : Parts
  r = parts_of (planned (readings_of_plans done) p)

  sets : AreFrameSets corners level round p.begun.layout is.ids.pps p.begun.sps p.begun.pps
  sets = sets_of corners level round done p is

  its_apart : IsApart p.begun.pps
  its_apart = apart tells reads corners round ready passes p.begun.layout is.frame level is.ids.pps p.begun.sps p.begun.pps sets

  first : IsSource (picture_at round 0)
  first = source_at tells reads corners round ready passes 0 (some_round tells reads corners round ready passes)

  init : signed p.begun.pps pps.pps_init_qp_minus26 ≡ signed (picture_at round 0).pps pps.pps_init_qp_minus26
  init =
      let said = told tells reads corners level round p.begun.layout is.ids.pps p.begun.sps p.begun.pps ready passes is.frame sets in
      ap (λ v. unwrap_or v (pos 0)) (said.init_qp refl)

  module _ (k : ℕ) (short : k < length round) (s : SlicePart) (w : Slice) (source : IsSourceSlice (picture_at round k) s)
      (inside : (b : List ℕ) → HasBody (filters_of (picture_at round k) s) b → HasBody (flat_map filters_in round) b)
      (m : IsMergedSlice round is.ids p.kind.nal_type p.begun k s w) where
    abbrev q : Parts
    q = picture_at round k

    abbrev new : SliceValue
    new = (slice_part p.begun w).header

    picture : IsSource q
    picture = source_at tells reads corners round ready passes k short

    kept : HaveSameKept q.sps q.pps p.begun.sps p.begun.pps
    kept = kept_same tells reads corners round ready passes p.begun.layout is.frame level is.ids.pps p.begun.sps p.begun.pps sets k short

    agree : AgreeOnKept q.sps q.pps p.begun.sps p.begun.pps
    agree = laws.agree q.sps q.pps p.begun.sps p.begun.pps kept

    sps_same : (of : ℕ) → IsTrue (has sps_set.kept_sps_fields of) → number p.begun.sps of ≡ number q.sps of
    sps_same of there =
        number_of_shown sps_set.kept_sps_fields of p.begun.sps there ∙ ap (λ xs. number xs of) kept.of_sps
        ∙ sym (number_of_shown sps_set.kept_sps_fields of q.sps there)

    -- ---- kept fields

    fields_are : w.header.fields ≡ m.is.header.fields
    fields_are = ap (λ h. h.fields) m.read

    header_kept : header_fields p.begun.header ≡ header_fields q.header.fields
    header_kept = is.header.says.fields.shown_ones ∙ sym (header_alike corners round ready.same passes k short)

    slice_kept : kept_slice_items w.header.fields ≡ kept_slice_items s.header.fields
    slice_kept = ap (λ xs. kept_slice_items xs) fields_are ∙ m.is.reshaped.fields.kept

    -- ---- the filter

    abbrev items : List Item
    items = filter_items q.pps q.header.fields (parts.read_of s.header)

    abbrev ids : ℕ → ℕ
    ids = id_for round is.ids q

    where_enabled : (b : Bool) → is_set (number p.begun.sps sps.sps_alf_enabled_flag) ≡ b
        → where_so b (with_ids ids (filter_of items)) ≡ with_ids ids (filter_of items)
    unfolding fresh
    where_enabled true on = refl
    where_enabled false off =
        let own : is_set (number q.sps sps.sps_alf_enabled_flag) ≡ false = ap is_set (sym (sps_same sps.sps_alf_enabled_flag refl)) ∙ off in
        sym (ap (with_ids ids) (source.filter own))

    filter_there : reshaped.stated_filter_items m.is.numbers.sps.now m.is.shape.filter.now ≡ with_ids ids (filter_of items)
    filter_there =
        ap (λ x. where_so (is_set (number x sps.sps_alf_enabled_flag)) m.is.shape.filter.now) m.is.at.sps
        ∙ ap (where_so (is_set (number p.begun.sps sps.sps_alf_enabled_flag))) m.is.says.filter
        ∙ where_enabled (is_set (number p.begun.sps sps.sps_alf_enabled_flag)) refl

    filters_named : AreThere q.bodies (named_filters items)
    unfolding names_of
    filters_named = there_front q.bodies (named_filters items) _ source.there

    alf_same : alf_of r (filter_items p.begun.pps p.begun.header (parts.read_of new)) ≡ alf_of q items
    alf_same =
        let stands : filter_items p.begun.pps p.begun.header (parts.read_of new) ≡ m.is.header.fields
        = ap (λ n. cond (is_set n) p.begun.header w.header.fields) its_apart.filter ∙ fields_are in
        ap (alf_of r) stands
        ∙ filter_same q r ids (id_of_body (alf_bodies round) is.ids.alf)
        (λ n. alf_low needs corners level round done p is sent (unwrap_or (body_of q aps.ALF n) [])) (λ n. refl)
        items m.is.header.fields filters_named
        (λ b among. alf_found needs corners level round done p is sent b (inside b among))
        (λ of shown starred. filter_with m.is.numbers m.is.shape m.is.header.fields m.is.reshaped.fields.others of shown starred
        ∙ ap (with_field of) filter_there)

    no_field : (of : ℕ) → has alf.ALL of ≡ false → with_field of m.is.shape.filter.now ≡ []
    no_field of hidden = ap (with_field of) m.is.says.filter ∙ with_none of ids items hidden

    -- ---- LMCS

    -- the slice takes up what the picture header has, in a field or since that stands inside
    abbrev takes_up : ℕ → Bool
    takes_up of = is_set (number s.header.fields sh.sh_picture_header_in_slice_header_flag) || is_set (number s.header.fields of)

    header_is : m.is.numbers.header.now.fields ≡ p.begun.header
    header_is = ap (λ h. h.fields) m.is.at.header

    abbrev has_maps : Bool
    has_maps = is_set (number p.begun.header ph.ph_lmcs_enabled_flag)

    abbrev uses_maps : Bool
    uses_maps = is_used q.header.fields s.header ph.ph_lmcs_enabled_flag sh.sh_lmcs_used_flag

    maps_used : is_used p.begun.header new ph.ph_lmcs_enabled_flag sh.sh_lmcs_used_flag ≡ (has_maps && uses_maps)
    unfolding fresh
    maps_used =
        let used = is_set (number m.is.header.fields sh.sh_lmcs_used_flag) in
        ap (λ xs. has_maps && (is_set (number xs sh.sh_picture_header_in_slice_header_flag) || is_set (number xs sh.sh_lmcs_used_flag))) fields_are
        ∙ ap (λ n. has_maps && (is_set n || used)) m.is.reshaped.fields.apart
        ∙ ap (λ xs. is_set (number xs ph.ph_lmcs_enabled_flag) && used) (sym header_is)
        ∙ lmcs_used m.is.numbers m.is.shape m.is.header.fields m.is.reshaped.fields.others (no_field sh.sh_lmcs_used_flag refl)
        ∙ ap (λ xs. is_set (number xs ph.ph_lmcs_enabled_flag) && m.is.shape.uses_lmcs) header_is
        ∙ ap (λ b. has_maps && b) m.is.says.lmcs

    abbrev scaled : List ℕ → List ℕ × Bool
    scaled body = (body, is_set (number p.begun.header ph.ph_chroma_residual_scale_flag))

    abbrev scaled_own : List ℕ → List ℕ × Bool
    scaled_own body = (body, is_chroma_scaled q)

    abbrev SameMaps : Type 0
    SameMaps =
        cond (has_maps && uses_maps) (option_map scaled (named_body r aps.LMCS ph.ph_lmcs_aps_id p.begun.header)) None
        ≡ cond uses_maps (option_map scaled_own (lmcs_body q)) None

    maps_with : uses_maps ≡ true → (o : Option (List ℕ)) → of_lowest has_lmcs lmcs_body None round ≡ o → SameMaps
    unfolding fresh
    maps_with used None none =
        let has_ : has_lmcs q ≡ true = (and_parts (has_lmcs q) (takes_up sh.sh_lmcs_used_flag) used).0 in
        let off : has_maps ≡ false
        = lmcs_off p.begun.sps p.begun.header (ph_shape round is.ids) is.header.says.fields.other_ones
        (ap (option_map (lmcs_shape round)) (no_lmcs needs corners level round done p is sent none)) in
        bodiless has_maps uses_maps aps.LMCS ph.ph_lmcs_aps_id r p.begun.header scaled scaled_own off used (lmcs_body q)
        (lmcs_as_lowest corners round ready.same passes k short has_ ∙ none)
    maps_with used (Some body) some =
        let has_ : has_lmcs q ≡ true = (and_parts (has_lmcs q) (takes_up sh.sh_lmcs_used_flag) used).0 in
        let one = lmcs_found needs corners level round done p is sent body some in
        let shape : LmcsShape = lmcs_shape round one.id in
        let stated = ap (option_map (lmcs_shape round)) one.first in
        let enabled : is_set (number p.begun.sps sps.sps_lmcs_enabled_flag) ≡ true
        = ap is_set (sps_same sps.sps_lmcs_enabled_flag refl) ∙ picture.maps.lmcs has_ in
        let others = is.header.says.fields.other_ones in
        let lowest : shape.scales_chroma ≡ is_chroma_scaled q = sym (chroma_as_lowest corners round ready.same passes k short has_) in
        let gray : is_set (number p.begun.sps sps.sps_chroma_format_idc) ≡ false → shape.scales_chroma ≡ false
        = λ off. lowest ∙ picture.maps.chroma (ap is_set (sym (sps_same sps.sps_chroma_format_idc refl)) ∙ off) in
        let scales = chroma_is p.begun.sps p.begun.header (ph_shape round is.ids) others enabled shape stated gray ∙ lowest in
        in_force_same has_maps uses_maps aps.LMCS ph.ph_lmcs_aps_id r p.begun.header scaled scaled_own
        (lmcs_on p.begun.sps p.begun.header (ph_shape round is.ids) others enabled shape stated) used one.id
        (lmcs_id p.begun.sps p.begun.header (ph_shape round is.ids) others enabled shape stated) one.low body one.found
        (ap (λ b. (body, b)) scales) (lmcs_body q) (lmcs_as_lowest corners round ready.same passes k short has_ ∙ some)

    lmcs_same : lmcs_of r new ≡ lmcs_of q s.header
    lmcs_same =
        ap (λ b. cond b (option_map scaled (named_body r aps.LMCS ph.ph_lmcs_aps_id p.begun.header)) None) maps_used
        ∙ (elim (cases_Bool uses_maps) as (λ _. SameMaps) [
          | inl used ↦ maps_with used (of_lowest has_lmcs lmcs_body None round) refl
          | inr off ↦ unused has_maps uses_maps aps.LMCS ph.ph_lmcs_aps_id r p.begun.header scaled scaled_own off (lmcs_body q)
        ])

    -- ---- scaling lists

    abbrev has_lists : Bool
    has_lists = is_set (number p.begun.header ph.ph_explicit_scaling_list_enabled_flag)

    abbrev uses_lists : Bool
    uses_lists = is_used q.header.fields s.header ph.ph_explicit_scaling_list_enabled_flag sh.sh_explicit_scaling_list_used_flag

    lists_used : is_used p.begun.header new ph.ph_explicit_scaling_list_enabled_flag sh.sh_explicit_scaling_list_used_flag
        ≡ (has_lists && uses_lists)
    unfolding fresh
    lists_used =
        let used = is_set (number m.is.header.fields sh.sh_explicit_scaling_list_used_flag) in
        ap (λ xs. has_lists
        && (is_set (number xs sh.sh_picture_header_in_slice_header_flag) || is_set (number xs sh.sh_explicit_scaling_list_used_flag))) fields_are
        ∙ ap (λ n. has_lists && (is_set n || used)) m.is.reshaped.fields.apart
        ∙ ap (λ xs. is_set (number xs ph.ph_explicit_scaling_list_enabled_flag) && used) (sym header_is)
        ∙ scaling_used m.is.numbers m.is.shape m.is.header.fields m.is.reshaped.fields.others
        (no_field sh.sh_explicit_scaling_list_used_flag refl)
        ∙ ap (λ xs. is_set (number xs ph.ph_explicit_scaling_list_enabled_flag) && m.is.shape.uses_scaling) header_is
        ∙ ap (λ b. has_lists && b) m.is.says.scaling

    abbrev plain : List ℕ → List ℕ
    plain body = body

    abbrev SameLists : Type 0
    SameLists =
        cond (has_lists && uses_lists) (option_map plain (named_body r aps.SCALING ph.ph_scaling_list_aps_id p.begun.header)) None
        ≡ cond uses_lists (option_map plain (scaling_body q)) None

    lists_with : uses_lists ≡ true → (o : Option (List ℕ)) → of_lowest has_scaling scaling_body None round ≡ o → SameLists
    unfolding fresh
    lists_with used None none =
        let has_ : has_scaling q ≡ true = (and_parts (has_scaling q) (takes_up sh.sh_explicit_scaling_list_used_flag) used).0 in
        let off : has_lists ≡ false
        = scaling_off p.begun.sps p.begun.header (ph_shape round is.ids) is.header.says.fields.other_ones
        (no_scaling needs corners level round done p is sent none) in
        bodiless has_lists uses_lists aps.SCALING ph.ph_scaling_list_aps_id r p.begun.header plain plain off used (scaling_body q)
        (scaling_lists_as_lowest corners round ready.same passes k short has_ ∙ none)
    lists_with used (Some body) some =
        let has_ : has_scaling q ≡ true = (and_parts (has_scaling q) (takes_up sh.sh_explicit_scaling_list_used_flag) used).0 in
        let one = scaling_found needs corners level round done p is sent body some in
        let enabled : is_set (number p.begun.sps sps.sps_explicit_scaling_list_enabled_flag) ≡ true
        = ap is_set (sps_same sps.sps_explicit_scaling_list_enabled_flag refl) ∙ picture.maps.scaling has_ in
        let others = is.header.says.fields.other_ones in
        in_force_same has_lists uses_lists aps.SCALING ph.ph_scaling_list_aps_id r p.begun.header plain plain
        (scaling_on p.begun.sps p.begun.header (ph_shape round is.ids) others enabled one.id one.first) used one.id
        (scaling_id p.begun.sps p.begun.header (ph_shape round is.ids) others enabled one.id one.first) one.low body one.found refl
        (scaling_body q) (scaling_lists_as_lowest corners round ready.same passes k short has_ ∙ some)

    as_mapped : (b : Bool) (o : Option (List ℕ)) → cond b (option_map plain o) None ≡ cond b o None
    as_mapped b None = refl
    as_mapped b (Some body) = refl

    scaling_same : scaling_of r new ≡ scaling_of q s.header
    scaling_same =
        ap (λ b. cond b (named_body r aps.SCALING ph.ph_scaling_list_aps_id p.begun.header) None) lists_used
        ∙ sym (as_mapped (has_lists && uses_lists) (named_body r aps.SCALING ph.ph_scaling_list_aps_id p.begun.header))
        ∙ (elim (cases_Bool uses_lists) as (λ _. SameLists) [
          | inl used ↦ lists_with used (of_lowest has_scaling scaling_body None round) refl
          | inr off ↦ unused has_lists uses_lists aps.SCALING ph.ph_scaling_list_aps_id r p.begun.header plain plain off (scaling_body q)
        ])
        ∙ as_mapped uses_lists (scaling_body q)

    -- ---- reference picture lists

    told_in_header : number p.begun.pps pps.pps_rpl_info_in_ph_flag ≡ number q.pps pps.pps_rpl_info_in_ph_flag
    unfolding fresh
    told_in_header =
        let of = pps.pps_rpl_info_in_ph_flag in
        sym (of_pps p.begun.sps p.begun.pps of (omega arith) (λ e. absurd (omega (arith, e)))) ∙ sym (agree.numbers.same of refl)
        ∙ of_pps q.sps q.pps of (omega arith) (λ e. absurd (omega (arith, e)))

    header_lists : r.header.lists ≡ q.header.lists
    unfolding fresh
    header_lists = sym (agree.lists ph_set.kept_ph_fields q.header.fields p.begun.header refl (sym header_kept)) ∙ sym picture.lists

    slice_lists : new.lists ≡ s.header.lists
    unfolding fresh
    slice_lists = sym (agree.lists kept_fields s.header.fields w.header.fields refl (sym slice_kept)) ∙ sym source.lists

    lists_same : lists_in_force r new ≡ lists_in_force q s.header
    lists_same =
        let flag = told_in_header in
        let of_header = header_lists in
        let of_slice = slice_lists in
        λ j. cond (is_set (flag j)) (of_header j) (of_slice j)

    -- ---- the QP, and the payload

    low : p.begun.temporal_id < 7
    low =
        let less = first.tid in
        let same : p.begun.temporal_id ≡ (picture_at round 0).kind.temporal_id = is.temporal_id ∙ ap (λ (t : Kind). t.temporal_id) is.kind in
        omega (arith, less, same)

    known : IsKnownSlice round p.kind.nal_type p.begun k s
    known = record {
      source = source;
      kept = kept;
      apart = its_apart;
      init = init;
      low = low;
      class = ap (λ (t : Kind). class_of t.nal_type) is.kind ∙ first.class;
    }

    qp_same : slice_qp p.begun.pps p.begun.header (parts.read_of new) ≡ slice_qp q.pps q.header.fields (parts.read_of s.header)
    unfolding slice_qp
    qp_same = qp_is laws round is.ids p.kind.nal_type p.begun k s w known m

    payload_same : drop w.header.payload w.unit ≡ drop s.payload s.unit
    payload_same =
        ap (λ h. drop h.payload w.unit) m.read ∙ ap (drop (length m.front)) m.unit ∙ drop-append_seam m.front (drop s.payload s.unit)

    -- ---- all of it

    pub one_input : p.kind ≡ q.kind → place_in r w.header.subpic (address_of w.header) ≡ place_in q s.header.subpic s.header.address
        → input_in r (slice_part p.begun w) ≡ input_in q s
    one_input kind place = same_input (input_in r (slice_part p.begun w)) (input_in q s) (record {
      kind = kind;
      sps = kept.of_sps;
      pps = kept.of_pps;
      header = header_kept;
      slice = slice_kept;
      alf = alf_same;
      lmcs = lmcs_same;
      scaling = scaling_same;
      lists = lists_same;
      slice_qp = qp_same;
      place = place;
      payload = payload_same;
    })
